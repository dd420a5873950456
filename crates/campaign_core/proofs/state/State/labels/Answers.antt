use Rattle.std.proofs.Common.{◌≡◌, ◌<◌, ◌∙◌, [], List, MatchOption, Some, ap, length, subst, sym, true}
use Rattle.labels.specs.declared.given.Given.{Given}
use Rattle.labels.specs.LabelledDocuments.{LabelledDocument, given_at}
use Rattle.rulebook.specs.Judgements.Grades.{labels_on}
use Rattle.rulebook.specs.Words.{Text, contains_text}
use Rattle.campaign_core.specs.Views.LentTopics.{topic_at}
use Rattle.campaign_core.specs.Numbering.Numbers.{doc_in, names_of}
use Rattle.campaign_core.specs.StateViews.{StateView}
use Rattle.campaign_core.specs.Assessments.Topics.{topic_ids}
use Rattle.campaign_core.proofs.PageTexts.LentTopics.{id-at}
use Rattle.campaign_core.proofs.state.State.labels.Goals as goal

pub kept_topic-requires-clause-within : goal.kept_topic-requires-clause-within
kept_topic-requires-clause-within c = subst (λ (s : StateView). c.args.topic < length (topic_ids s.history)) (sym c.self.view_is) c.requires

pub returns : goal.returns
returns c =
    let H = c.self.inside.campaign.history.items in
    let at = c.kept_topic.ensures in
    let doc = c.args.doc in
    subst (λ (s : StateView). (id d : Text) → topic_at s.history c.args.topic ≡ Some id
    → contains_text (names_of s.history) d ≡ true → doc ≡ doc_in (names_of s.history) d
    → MatchOption c.labels.result (labels_on s.history id d ≡ []) (λ labels. labels.now.given ≡ labels_on s.history id d)) c.self.view_is
    (λ id d is named doc_is.
    let given : given_at c.marks.result.now.marked doc ≡ labels_on H id d =
    ap (λ (marked : List LabelledDocument). given_at marked doc) c.marks.ensures ∙ ap (given_at c.kept_topic.result.now.facts.marked) doc_is
    ∙ at.is_topic.labelled.given_are d named ∙ ap (λ (t : Text). labels_on H t d) (id-at H c.args.topic c.kept_topic.result.now.facts id at is) in
    subst (λ (g : List Given). MatchOption c.labels.result (g ≡ []) (λ labels. labels.now.given ≡ g)) given c.labels.ensures.given)
