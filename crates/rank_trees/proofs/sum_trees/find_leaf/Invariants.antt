-- What stands left of the node and the rest make the number, the node exceeds the rest, and each level is a step.
use Rattle.std.proofs.Common.{◌≡◌, ◌+◌}
use Rattle.rank_trees.proofs.Sums.{IsNear}
use Rattle.rank_trees.proofs.sum_trees.find_leaf.Given as goal

abbrev pub invariant-loop-level : goal.invariant-loop-level
invariant-loop-level g l = record {
  near : IsNear l.nodes l.depth l.number l._level l.start l.at l.rest;
  cost : l.steps ≡ l.fn.steps + 1 + l._level;
}
