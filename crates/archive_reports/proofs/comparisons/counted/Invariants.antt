-- The counts so far, and those of the runs left, are those of all.
use Rattle.std.proofs.Common.{◌≡◌, ◌≤◌, length}
use Rattle.archive_reports.specs.Comparisons.{pairs_among}
use Rattle.archive_reports.specs.PairCounts.{joined_pairs, present}
use Rattle.archive_reports.proofs.comparisons.counted.Given as goal

abbrev pub invariant-loop-left : goal.invariant-loop-left
invariant-loop-left l =
    (length l.left ≤ 256) × (joined_pairs l.pairs (pairs_among (present l.left)) ≡ pairs_among (present l.found)) × (length l.found ≤ 256)

abbrev pub decreases-loop-left : goal.decreases-loop-left
decreases-loop-left l = length l.left
