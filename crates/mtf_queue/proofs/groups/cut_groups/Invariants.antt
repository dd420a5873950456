use Rattle.std.proofs.Common.{◌≡◌, ◌≤◌, false, drop, length, map, vec_capacity}
use Rattle.depth_pool.specs.Holdings.{pool_holds}
use Rattle.mtf_queue.specs.Groups.{AreFewGroups, AreGrouped, AreToldApart, member_run}
use Rattle.mtf_queue.proofs.groups.cut_groups.Given as goal

-- the groups stand by the documents that were looked at
abbrev pub invariant-loop-left : goal.invariant-loop-left
invariant-loop-left g l =
    (l.left ≤ length l.trail)
    × AreGrouped (pool_holds l.pool.runs) (drop l.left l.trail) l.members.items
    × AreFewGroups l.members.items
    × (map member_run l.members.items ≡ map member_run l.initial.members.items)
    × (l.are_tied ≡ false → AreToldApart l.members.items)
    × (vec_capacity l.members ≡ vec_capacity l.initial.members)
    × (vec_capacity l.initial.sizes ≤ vec_capacity l.sizes)

abbrev pub decreases-loop-left : goal.decreases-loop-left
decreases-loop-left g l = l.left
