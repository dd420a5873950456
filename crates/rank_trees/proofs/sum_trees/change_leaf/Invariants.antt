-- The leaf has its new value, all nodes but that above the present one are sums, and each level is a step.
use Rattle.std.proofs.Common.{◌≡◌, ◌+◌, ◌-◌, ◌^◌, get_or}
use Rattle.rank_trees.proofs.Updates.{IsUpdated}
use Rattle.rank_trees.proofs.sum_trees.change_leaf.Given as goal

abbrev pub invariant-loop-level : goal.invariant-loop-level
invariant-loop-level g l = record {
  updated : IsUpdated l.fn.nodes l.nodes l.depth l.index (get_or l.fn.nodes (2 ^ l.depth + l.index) 0 - l.less + l.more) l.less l.more l._level l.node;
  cost : l.steps ≡ l.fn.steps + 1 + l._level;
}
