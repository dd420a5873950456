use Rattle.std.proofs.Common.{◌≡◌, ◌++◌, map, take, drop}
use Rattle.mtf_queue.specs.Groups.{numbered_by}
use Rattle.mtf_queue.proofs.groups.put_numbers.Given as goal

-- the first have their numbers, the others are as they were
abbrev pub invariant-loop-member : goal.invariant-loop-member
invariant-loop-member l =
    l.member-items ≡ map (numbered_by l.numbers) (take l.member-index l.initial.member-items) ++ drop l.member-index l.initial.member-items
