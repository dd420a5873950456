use Rattle.std.proofs.Common.{◌≡◌, ◌<◌, ◌∙◌, Option, Some, ap, length, subst, sym}
use Rattle.campaign_core.specs.Views.LentTopics.{topic_at}
use Rattle.campaign_core.specs.StateViews.{StateView}
use Rattle.campaign_core.specs.Assessments.Topics.{topic_ids}
use Rattle.rulebook.specs.Words.{Text}
use Rattle.campaign_core.proofs.state.State.topic_name.Goals as goal

pub kept_topic-requires-clause-within : goal.kept_topic-requires-clause-within
kept_topic-requires-clause-within c = subst (λ (s : StateView). c.args.topic < length (topic_ids s.history)) (sym c.self.view_is) c.requires

pub returns : goal.returns
returns c =
    subst (λ (s : StateView). topic_at s.history c.args.topic ≡ Some c.id.result.now) c.self.view_is
    (c.kept_topic.ensures.id_is ∙ ap (λ (id : Text). let o : Option Text = Some id in o) (sym c.id.ensures))
