use Rattle.std.proofs.Common.{◌≡◌, ◌<◌, ◌∙◌, Option, Some, IsTrue, ap, length, subst, sym}
use Rattle.std.specs.Option.{IsSomeAnd, option_map}
use Rattle.rulebook.specs.Campaign.{level}
use Rattle.rulebook.specs.Judgements.Grades.{trail}
use Rattle.rulebook.specs.Words.{Text}
use Rattle.campaign_core.specs.Views.LentTopics.{graded_on, topic_at}
use Rattle.campaign_core.specs.Numbering.Numbers.{are_named, names_of}
use Rattle.campaign_core.specs.StateViews.{StateView}
use Rattle.campaign_core.specs.Assessments.Topics.{KeptTopic, topic_ids}
use Rattle.campaign_core.proofs.PageTexts.LentTopics.{told-at}
use Rattle.campaign_core.proofs.state.State.view.Goals as goal

pub kept_topic-requires-clause-within : goal.kept_topic-requires-clause-within
kept_topic-requires-clause-within c = subst (λ (s : StateView). c.args.topic < length (topic_ids s.history)) (sym c.self.view_is) c.requires

pub returns-clause-level : goal.returns-clause-level
returns-clause-level c =
    let H = c.self.inside.campaign.history.items in
    let at = c.kept_topic.ensures in
    subst (λ (s : StateView). option_map (level s.history) (topic_at s.history c.args.topic) ≡ Some c.grades.result.now.level) c.self.view_is
    (told-at H c.args.topic c.kept_topic.result.now.facts (level H) c.grades.result.now.level at
    (c.grades.ensures.level ∙ ap (λ (k : KeptTopic). k.level) at.is_topic.kept_is))

pub returns-clause-graded : goal.returns-clause-graded
returns-clause-graded c =
    let H = c.self.inside.campaign.history.items in
    let at = c.kept_topic.ensures in
    subst (λ (s : StateView). option_map (graded_on s.history) (topic_at s.history c.args.topic) ≡ Some c.grades.result.now.graded) c.self.view_is
    (told-at H c.args.topic c.kept_topic.result.now.facts (graded_on H) c.grades.result.now.graded at
    (c.grades.ensures.graded ∙ at.is_topic.labelled.graded_are))

pub returns-clause-named : goal.returns-clause-named
returns-clause-named c =
    let H = c.self.inside.campaign.history.items in
    let at = c.kept_topic.ensures in
    subst (λ (s : StateView). IsSomeAnd (topic_at s.history c.args.topic) (λ id. IsTrue (are_named (names_of s.history) (trail s.history id)))) c.self.view_is
    (subst (λ (o : Option Text). IsSomeAnd o (λ id. IsTrue (are_named (names_of H) (trail H id)))) (sym at.id_is) at.is_topic.labelled.trail_named)
