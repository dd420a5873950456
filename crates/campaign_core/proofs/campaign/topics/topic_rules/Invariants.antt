-- What is made so far is what the rules say of the topics so far, each of them empty and unlabelled.
use Rattle.std.proofs.Common.{◌≡◌, map, take}
use Rattle.assessment.specs.TopicFacts.{new_topic}
use Rattle.campaign_core.specs.Assessments.Topics.{empty_topic, kept_topic, labelled_of, unlabelled_topic}
use Rattle.campaign_core.proofs.campaign.topics.topic_rules.Given as goal

abbrev pub invariant-loop-topic : goal.invariant-loop-topic
invariant-loop-topic l = record {
  kept_topic : map kept_topic (map new_topic l.made.items) ≡ map (λ topic. empty_topic l.rules topic.id) (take l.topic-index l.topics);
  labelled : map labelled_of (map new_topic l.made.items) ≡ map (λ topic. unlabelled_topic topic.id) (take l.topic-index l.topics);
}
