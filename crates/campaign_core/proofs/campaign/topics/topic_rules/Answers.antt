use Rattle.std.proofs.Common.{◌≡◌, ◌+◌, arith, map, take}
use Rattle.std.proofs.lemmas.Grind.{common_steps}
use Rattle.assessment.specs.TopicFacts.{new_topic}
use Rattle.campaign_core.specs.Assessments.Topics.{empty_topic, kept_topic, labelled_of, unlabelled_topic}
use Rattle.campaign_core.proofs.campaign.topics.topic_rules.Goals as goal

pub loop-topic-preserved : goal.loop-topic-preserved
loop-topic-preserved c =
    let made : map kept_topic (map new_topic c.push.new.self.items)
    ≡ map (λ topic. empty_topic c.args.rules.now topic.id) (take (c.loop-topic.topic-index + 1) c.args.topics.now) = grind (arith, common_steps) in
    let labelled : map labelled_of (map new_topic c.push.new.self.items)
    ≡ map (λ topic. unlabelled_topic topic.id) (take (c.loop-topic.topic-index + 1) c.args.topics.now) = grind (arith, common_steps) in
    record { kept_topic = made; labelled = labelled }
