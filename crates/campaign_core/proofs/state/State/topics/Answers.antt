use Rattle.std.proofs.Common.{◌≡◌, ap, arith, length, map}
use Rattle.std.proofs.lemmas.List.{length-map}
use Rattle.assessment.specs.TopicFacts.{facts_of}
use Rattle.campaign_core.specs.StateViews.{StateView}
use Rattle.campaign_core.specs.Assessments.Topics.{topic_ids}
use Rattle.campaign_core.proofs.Numbers.TopicPlaces.{as-long}
use Rattle.campaign_core.proofs.state.State.topics.Goals as goal

pub overflow_cast-result : goal.overflow_cast-result
overflow_cast-result c =
    let H = c.self.inside.campaign.history.items in
    let all = c.self.inside.campaign.assessment.topics.topics in
    let known = c.self.invariant.known.assessed.knows in
    omega (
      arith,
      ap length c.topics.ensures,
      as-long H (map facts_of all) c.self.inside.campaign.assessment.leases known,
      length-map all facts_of,
      known.topics_fit,
    )

pub returns : goal.returns
returns c =
    let H = c.self.inside.campaign.history.items in
    let all = c.self.inside.campaign.assessment.topics.topics in
    let known = c.self.invariant.known.assessed.knows in
    let ids : length (topic_ids H) ≡ length (topic_ids c.args.self.now.history) = ap (λ (s : StateView). length (topic_ids s.history)) c.self.view_is in
    omega (arith, ap length c.topics.ensures, as-long H (map facts_of all) c.self.inside.campaign.assessment.leases known, length-map all facts_of, ids)
