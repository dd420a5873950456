use Rattle.std.proofs.Common.{◌≡◌, ◌≤◌, length, map, take, vec_capacity}
use Rattle.mtf_queue.specs.Groups.{member_run}
use Rattle.mtf_queue.proofs.groups.take_runs.Given as goal

abbrev pub invariant-loop-member : goal.invariant-loop-member
invariant-loop-member l =
    (l.order.items ≡ map member_run (take l.member-index l.members))
    × (length l.members ≤ vec_capacity l.order)
