-- What is lent so far is the texts so far.
use Rattle.std.proofs.Common.{◌≡◌, take}
use Rattle.record_codec.proofs.DistinctTexts.{shown}
use Rattle.record_codec.proofs.entries.text_orders.lent.Given as goal

abbrev pub invariant-loop-text : goal.invariant-loop-text
invariant-loop-text l = shown l.lent.items ≡ take l.text-index l.texts
