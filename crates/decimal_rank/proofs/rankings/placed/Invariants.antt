-- The entries are those of the first documents, in their order.
use Rattle.std.proofs.Common.{◌≡◌, take}
use Rattle.decimal_rank.specs.Rankings.Entries.{entries_in}
use Rattle.decimal_rank.proofs.rankings.placed.Given as goal

abbrev pub invariant-loop-i : goal.invariant-loop-i
invariant-loop-i l = l.entries.items ≡ entries_in (take l.i l.docs)
