use Rattle.std.proofs.Common.{◌≡◌, ◌<◌, ◌∙◌, Some, ap, length, subst, sym}
use Rattle.std.specs.Option.{option_map}
use Rattle.rulebook.specs.Campaign.{need}
use Rattle.campaign_core.specs.Views.LentTopics.{topic_at}
use Rattle.campaign_core.specs.StateViews.{StateView}
use Rattle.campaign_core.specs.Assessments.Topics.{KeptTopic, topic_ids}
use Rattle.campaign_core.proofs.PageTexts.LentTopics.{told-at}
use Rattle.campaign_core.proofs.state.State.need.Goals as goal

pub kept_topic-requires-clause-within : goal.kept_topic-requires-clause-within
kept_topic-requires-clause-within c = subst (λ (s : StateView). c.args.topic < length (topic_ids s.history)) (sym c.self.view_is) c.requires

pub returns : goal.returns
returns c =
    let H = c.self.inside.campaign.history.items in
    let at = c.kept_topic.ensures in
    subst (λ (s : StateView). option_map (need s.history) (topic_at s.history c.args.topic) ≡ Some c.need.result) c.self.view_is
    (told-at H c.args.topic c.kept_topic.result.now.facts (need H) c.need.result at
    (c.need.ensures ∙ ap (λ (k : KeptTopic). k.labels_needed) at.is_topic.kept_is))
