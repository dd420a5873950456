-- The depth so far and the levels of the rest make the levels of the whole.
use Rattle.std.proofs.Common.{◌≡◌, ◌+◌}
use Rattle.decimal_rank.specs.Rankings.Places.{levels}
use Rattle.rank_trees.proofs.sum_trees.depth_for.Given as goal

abbrev pub invariant-loop-rest : goal.invariant-loop-rest
invariant-loop-rest l = l.depth + levels l.rest ≡ levels l.last

abbrev pub decreases-loop-rest : goal.decreases-loop-rest
decreases-loop-rest l = l.rest
