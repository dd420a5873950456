-- The rows so far are those of the releases so far.
use Rattle.std.proofs.Common.{◌≡◌, take}
use Rattle.std.specs.List.{flat_map}
use Rattle.archive_reports.specs.Histories.{history_row}
use Rattle.archive_reports.specs.Orders.{releases_behind}
use Rattle.archive_reports.proofs.histories.history.Given as goal

abbrev pub invariant-loop-kept : goal.invariant-loop-kept
invariant-loop-kept l = l.rows.items ≡ flat_map (history_row l.run) (releases_behind (take l.kept-index l.kept-items))
