-- The name comes before none of the releases so far.
use Rattle.std.proofs.Common.{◌≡◌, ◌<◌, ℕ, false, get_or}
use denote.Ref.{Bor}
use Rattle.release_archive.specs.declared.kept.Kept.{Kept}
use Rattle.archive_reports.specs.Orders.{is_before}
use Rattle.archive_reports.proofs.orders.place_in.Given as goal

abbrev pub invariant-loop-place : goal.invariant-loop-place
invariant-loop-place l = (k : ℕ) (d : Bor Kept) → k < l.place → is_before l.name (get_or l.sorted k d).now.name ≡ false
