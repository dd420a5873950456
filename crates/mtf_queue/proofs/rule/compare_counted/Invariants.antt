use Rattle.std.proofs.Common.{◌≡◌, ◌≤◌, length, take, reverse}
use Rattle.depth_pool.specs.Holdings.{pool_holds}
use Rattle.mtf_queue.specs.Rule.{rule_cmp}
use Rattle.mtf_queue.proofs.rule.compare_counted.Given as goal

-- the newer documents tell nothing
abbrev pub invariant-loop-left : goal.invariant-loop-left
invariant-loop-left g l =
    (l.left ≤ length l.trail)
    × (rule_cmp (pool_holds l.pool.runs) (reverse l.trail) l.first l.second
    ≡ rule_cmp (pool_holds l.pool.runs) (reverse (take l.left l.trail)) l.first l.second)

abbrev pub decreases-loop-left : goal.decreases-loop-left
decreases-loop-left g l = l.left
