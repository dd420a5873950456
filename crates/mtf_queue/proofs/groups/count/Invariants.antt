use Rattle.std.proofs.Common.{◌≡◌, ◌≤◌, ◌*◌, length, take, vec_capacity}
use Rattle.mtf_queue.specs.Groups.{AreSizes}
use Rattle.mtf_queue.proofs.groups.count.Given as goal

-- the members so far are counted
abbrev pub invariant-loop-member : goal.invariant-loop-member
invariant-loop-member l =
    AreSizes l.sizes.items (take l.member-index l.members)
    × (length l.sizes.items ≡ 2 * length l.members)
    × (vec_capacity l.initial.sizes ≤ vec_capacity l.sizes)
