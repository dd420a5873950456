-- What was added and what stands to the left on this level make the sum before the leaf; each level is at most a step.
use Rattle.std.proofs.Common.{◌≤◌, ◌+◌}
use Rattle.rank_trees.proofs.Sums.{IsSummed}
use Rattle.rank_trees.proofs.sum_trees.sum_before.Given as goal

abbrev pub invariant-loop-level : goal.invariant-loop-level
invariant-loop-level g l = record {
  summed : IsSummed l.nodes l.depth l.index l._level l.start l.at l.sum;
  cost : l.steps ≤ l.fn.steps + l._level;
}
