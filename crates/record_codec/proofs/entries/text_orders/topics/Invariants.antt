-- The texts so far are the topics of the lists so far.
use Rattle.std.proofs.Common.{◌≡◌, map, take}
use Rattle.record_codec.proofs.DistinctTexts.{shown}
use Rattle.record_codec.proofs.entries.text_orders.topics.Given as goal

abbrev pub invariant-loop-list : goal.invariant-loop-list
invariant-loop-list l = shown l.lent.items ≡ map (λ list. list.topic) (take l.list-index l.lists)
