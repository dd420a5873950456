use Rattle.std.proofs.Common.{◌≡◌, length, vec_capacity}
use Rattle.mtf_queue.proofs.GroupNumbers.{IsAddedUp}
use Rattle.mtf_queue.proofs.groups.add_up.Given as goal

abbrev pub invariant-loop-group : goal.invariant-loop-group
invariant-loop-group l =
    IsAddedUp l.initial.sizes.items l.sizes.items l.group l.before l.largest
    × (l.group-end ≡ length l.initial.sizes.items)
    × (vec_capacity l.sizes ≡ vec_capacity l.initial.sizes)
