-- The ids are those of the topics so far, in byte order, with their numbers.
use Rattle.std.proofs.Common.{◌≡◌, map, take}
use Rattle.rulebook.specs.Words.{in_order}
use Rattle.campaign_core.specs.Assessments.Topics.{topic_ids}
use Rattle.leave_out.specs.TopicOrder.{AreTopicNumbers}
use Rattle.leave_out.proofs.topic_order.topic_ids.Given as goal

abbrev pub invariant-loop-topic : goal.invariant-loop-topic
invariant-loop-topic l = record {
  by_id : map (λ one. one.0) l.ids.entries ≡ in_order (take l.topic (topic_ids l.state.history));
  numbered : AreTopicNumbers l.state.history l.ids.entries;
}
