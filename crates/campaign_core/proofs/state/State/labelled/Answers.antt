use Rattle.std.proofs.Common.{◌≡◌, ◌<◌, ◌∙◌, List, Some, ap, length, subst, sym}
use Rattle.labels.specs.LabelledDocuments.{LabelledDocument, labelled_docs as marked_docs}
use Rattle.rulebook.specs.Judgements.Grades.{labelled_documents}
use Rattle.rulebook.specs.Words.{Text}
use Rattle.campaign_core.specs.Views.LentTopics.{topic_at}
use Rattle.campaign_core.specs.Numbering.Numbers.{docs_in, names_of}
use Rattle.campaign_core.specs.StateViews.{StateView}
use Rattle.campaign_core.specs.Assessments.Topics.{topic_ids}
use Rattle.campaign_core.proofs.PageTexts.LentTopics.{id-at}
use Rattle.campaign_core.proofs.state.State.labelled.Goals as goal

pub kept_topic-requires-clause-within : goal.kept_topic-requires-clause-within
kept_topic-requires-clause-within c = subst (λ (s : StateView). c.args.topic < length (topic_ids s.history)) (sym c.self.view_is) c.requires

pub returns : goal.returns
returns c =
    let H = c.self.inside.campaign.history.items in
    let at = c.kept_topic.ensures in
    subst (λ (s : StateView). (id : Text) → topic_at s.history c.args.topic ≡ Some id
    → c.docs.result.now ≡ docs_in (names_of s.history) (labelled_documents s.history id)) c.self.view_is
    (λ id is. c.docs.ensures ∙ ap (λ (marked : List LabelledDocument). marked_docs marked) c.marks.ensures ∙ at.is_topic.labelled.marked_are
    ∙ ap (λ (t : Text). docs_in (names_of H) (labelled_documents H t)) (id-at H c.args.topic c.kept_topic.result.now.facts id at is))
