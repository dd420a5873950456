use Rattle.std.proofs.Common.{◌≡◌, ◌<◌, ◌∙◌, List, Some, ap, arith, get_or, length, map, subst, sym}
use Rattle.std.proofs.lemmas.List.{get_or-map, length-map}
use Rattle.std.proofs.lemmas.Option.{slice_get-get_or}
use Rattle.assessment.specs.TopicFacts.{TopicFacts, TopicView, facts_of}
use Rattle.assessment.specs.TopicsFacts.{TopicsView}
use Rattle.campaign_core.specs.Views.Lendings.{IsQueueOf}
use Rattle.campaign_core.specs.StateViews.{StateView}
use Rattle.campaign_core.specs.Assessments.Topics.{kept_topic, kept_topic_of, topic_ids}
use Rattle.campaign_core.proofs.state.State.queue.Goals as goal

pub returns : goal.returns
returns c =
    let H = c.self.inside.campaign.history.items in
    let all = c.self.inside.campaign.assessment.topics in
    let known = c.self.invariant.known.assessed in
    let i = c.args.topic in
    let topic = c.index-items-topic.result in
    let items_are : c.items.result.now ≡ all.topics = c.items.ensures.topics ∙ ap (λ (topics : TopicsView). topics.topics) c.topics.ensures.topics in
    let asked : i < length (topic_ids H) = subst (λ (s : StateView). i < length (topic_ids s.history)) (sym c.self.view_is) c.requires in
    let many = ap length known.knows.topics_are in
    let within : i < length all.topics =
    omega (arith, asked, many, length-map (map facts_of all.topics) kept_topic, length-map all.topics facts_of, length-map (topic_ids H) (kept_topic_of H)) in
    let inside : i < length (map facts_of all.topics) = omega (arith, within, length-map all.topics facts_of) in
    let here : get_or all.topics i topic ≡ topic = sym (c.index-items-topic.is ∙ ap (λ (items : List TopicView). get_or items i topic) items_are) in
    subst (λ (s : StateView). IsQueueOf s.history i c.queue.result.now) c.self.view_is (record {
      topics = map facts_of all.topics;
      desk = c.self.inside.campaign.assessment.leases;
      knows = known.knows;
      facts = topic.facts;
      topic_is = slice_get-get_or (map facts_of all.topics) i topic.facts inside
          ∙ ap (λ (facts : TopicFacts). Some facts) (get_or-map facts_of all.topics i topic topic.facts within ∙ ap facts_of here);
      queued = c.queue.ensures;
    })
