-- The copies so far are the levels so far.
use Rattle.std.proofs.Common.{◌≡◌, take}
use Rattle.book.proofs.replays.founding.copy_of_levels.Given as goal

abbrev pub invariant-loop-own : goal.invariant-loop-own
invariant-loop-own l = l.copies.items ≡ take l.own-index l.levels
