-- The records so far are those of the releases so far.
use Rattle.std.proofs.Common.{◌≡◌, Some, take}
use Rattle.archive_reports.specs.Exports.{IsBetweenRecords, csv_text, rows_in, written_bytes}
use Rattle.archive_reports.specs.Orders.{releases_behind}
use Rattle.csv.specs.Writing.{text_written}
use Rattle.archive_reports.proofs.exports.csv_of.Given as goal

abbrev pub invariant-loop-kept : goal.invariant-loop-kept
invariant-loop-kept l =
    IsBetweenRecords l.writer × (text_written written_bytes l.writer ≡ Some (csv_text (rows_in (releases_behind (take l.kept-index l.releases)))))
