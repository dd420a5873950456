-- The releases so far stand by name.
use Rattle.std.proofs.Common.{◌≡◌, take}
use Rattle.archive_reports.specs.Orders.{by_name, releases_behind}
use Rattle.archive_reports.proofs.orders.by_name.Given as goal

abbrev pub invariant-loop-kept : goal.invariant-loop-kept
invariant-loop-kept l = releases_behind l.sorted.items ≡ by_name (take l.kept-index l.all)
