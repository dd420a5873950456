use Rattle.std.proofs.Common.{◌≡◌, ◌++◌, map, take, drop}
use Rattle.mtf_queue.specs.Groups.{half_of}
use Rattle.mtf_queue.proofs.HolderWalks.{ArePassed}
use Rattle.mtf_queue.proofs.groups.halve.Given as goal

-- the first are halved, the others are as they were, and the holders passed are none of them
abbrev pub invariant-loop-member : goal.invariant-loop-member
invariant-loop-member l =
    (l.member-items ≡ map (half_of l.holders l.relevant) (take l.member-index l.initial.member-items) ++ drop l.member-index l.initial.member-items)
    × ArePassed l.holders l.next l.initial.member-items l.member-index
