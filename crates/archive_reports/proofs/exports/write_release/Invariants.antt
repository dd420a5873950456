-- The records so far are those of the systems so far.
use Rattle.std.proofs.Common.{map, take}
use Rattle.archive_reports.specs.Exports.{Writes, csv_text, system_row}
use Rattle.archive_reports.proofs.exports.write_release.Given as goal

abbrev pub invariant-loop-system : goal.invariant-loop-system
invariant-loop-system l = Writes l.fn.writer l.writer (csv_text (map (system_row l.kept.name) (take l.system-index l.system-items)))
