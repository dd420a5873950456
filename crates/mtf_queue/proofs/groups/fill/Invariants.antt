use Rattle.std.proofs.Common.{◌≡◌, ◌≤◌, length, map, take, vec_capacity}
use Rattle.mtf_queue.specs.Groups.{first_group}
use Rattle.mtf_queue.proofs.groups.fill.Given as goal

abbrev pub invariant-loop-run : goal.invariant-loop-run
invariant-loop-run l =
    (l.members.items ≡ map first_group (take l.run-index l.order))
    × (length l.order ≤ vec_capacity l.members)
    × (vec_capacity l.members ≡ vec_capacity l.initial.members)
