-- The texts so far are the ids of the topics so far.
use Rattle.std.proofs.Common.{◌≡◌, map, take}
use Rattle.record_codec.proofs.DistinctTexts.{shown}
use Rattle.record_codec.proofs.entries.text_orders.ids.Given as goal

abbrev pub invariant-loop-topic : goal.invariant-loop-topic
invariant-loop-topic l = shown l.lent.items ≡ map (λ topic. topic.id) (take l.topic-index l.topics)
