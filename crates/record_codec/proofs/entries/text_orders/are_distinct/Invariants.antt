-- The texts seen are those so far, no two of them the same.
use Rattle.std.proofs.Common.{take}
use Rattle.record_codec.proofs.DistinctTexts.{AreSeen, shown}
use Rattle.record_codec.proofs.entries.text_orders.are_distinct.Given as goal

abbrev pub invariant-loop-text : goal.invariant-loop-text
invariant-loop-text l = AreSeen l.seen (shown (take l.text-index l.texts))
