-- The texts so far are the topics of the levels so far.
use Rattle.std.proofs.Common.{◌≡◌, map, take}
use Rattle.record_codec.proofs.DistinctTexts.{shown}
use Rattle.record_codec.proofs.entries.text_orders.leveled.Given as goal

abbrev pub invariant-loop-own : goal.invariant-loop-own
invariant-loop-own l = shown l.lent.items ≡ map (λ own. own.topic) (take l.own-index l.levels)
