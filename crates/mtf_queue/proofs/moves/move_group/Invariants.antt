-- Of the runs so far those that go first stand in front, and the others wait in the buffer, which has room.
use Rattle.std.proofs.Common.{◌≡◌, ◌≤◌, Some, length, vec_capacity}
use Rattle.depth_pool.specs.Holdings.{has_id}
use Rattle.mtf_queue.specs.Rule.{is_first_side}
use Rattle.mtf_queue.proofs.GroupMoves.{IsMoved}
use Rattle.mtf_queue.proofs.moves.move_group.Given as goal

abbrev pub invariant-loop-at : goal.invariant-loop-at
invariant-loop-at l =
    IsMoved (λ run. is_first_side (Some l.relevant) (has_id run l.holders)) l.initial.order.items l.order.items l.behind.items l.at l.front
    × (length l.initial.order.items ≤ vec_capacity l.behind)
    × (l.at-end ≡ length l.initial.order.items)
