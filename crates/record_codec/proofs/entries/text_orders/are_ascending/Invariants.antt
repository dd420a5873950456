-- The texts ascend up to the one before the place: those from that one on tell what all do.
use Rattle.std.proofs.Common.{◌≡◌, ◌-◌, drop}
use Rattle.rulebook.specs.Spelling.{is_ascending}
use Rattle.record_codec.proofs.DistinctTexts.{shown}
use Rattle.record_codec.proofs.entries.text_orders.are_ascending.Given as goal

abbrev pub invariant-loop-place : goal.invariant-loop-place
invariant-loop-place l = is_ascending (shown (drop (l.place - 1) l.texts)) ≡ is_ascending (shown l.texts)
