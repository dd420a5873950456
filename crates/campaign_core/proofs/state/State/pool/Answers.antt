use Rattle.std.proofs.Common.{◌≡◌, ◌<◌, ◌∙◌, Some, ap, length, subst, sym}
use Rattle.std.specs.Option.{option_map}
use Rattle.rulebook.specs.Campaign.{rules_of}
use Rattle.campaign_core.specs.Views.LentTopics.{topic_at}
use Rattle.campaign_core.specs.StateViews.{StateView}
use Rattle.campaign_core.specs.Assessments.Topics.{KeptTopic, pool_of, topic_ids}
use Rattle.campaign_core.proofs.PageTexts.LentTopics.{told-at}
use Rattle.campaign_core.proofs.state.State.pool.Goals as goal

pub kept_topic-requires-clause-within : goal.kept_topic-requires-clause-within
kept_topic-requires-clause-within c = subst (λ (s : StateView). c.args.topic < length (topic_ids s.history)) (sym c.self.view_is) c.requires

pub returns-clause-runs : goal.returns-clause-runs
returns-clause-runs c =
    let H = c.self.inside.campaign.history.items in
    let at = c.kept_topic.ensures in
    subst (λ (s : StateView). option_map (pool_of s.history) (topic_at s.history c.args.topic) ≡ Some c.pool.result.now.runs) c.self.view_is
    (told-at H c.args.topic c.kept_topic.result.now.facts (pool_of H) c.pool.result.now.runs at
    (c.pool.ensures.runs ∙ ap (λ (k : KeptTopic). k.runs) at.is_topic.kept_is))

pub returns-clause-depth : goal.returns-clause-depth
returns-clause-depth c =
    subst (λ (s : StateView). c.pool.result.now.depth ≡ (rules_of s.history).depth) c.self.view_is
    (c.pool.ensures.depth ∙ ap (λ (k : KeptTopic). k.depth) c.kept_topic.ensures.is_topic.kept_is)
