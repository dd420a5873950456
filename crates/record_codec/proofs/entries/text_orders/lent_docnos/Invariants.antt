-- What is lent so far is the docnos so far.
use Rattle.std.proofs.Common.{◌≡◌, take}
use Rattle.record_codec.proofs.DistinctTexts.{shown}
use Rattle.record_codec.proofs.entries.text_orders.lent_docnos.Given as goal

abbrev pub invariant-loop-place : goal.invariant-loop-place
invariant-loop-place l = shown l.lent.items ≡ take l.place l.docs
