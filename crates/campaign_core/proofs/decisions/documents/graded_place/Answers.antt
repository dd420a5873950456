use Rattle.std.proofs.Common.{◌≡◌, ◌<◌, ◌≤◌, ◌∙◌, List, None, Some, ap, arith, get_or, is_some, map, sym}
use Rattle.std.specs.Prelude.{option_map}
use Rattle.assessment.specs.TopicFacts.{TopicView, facts_of}
use Rattle.rulebook.specs.declared.rules.Rules.{Rules}
use Rattle.rulebook.specs.Campaign.{rules_of}
use Rattle.rulebook.specs.Words.{Text}
use Rattle.campaign_core.specs.Assessments.TopicLabelling.{is_labelled_for}
use Rattle.campaign_core.specs.Numbering.Numbers.{IsNumberOf}
use Rattle.campaign_core.specs.Assessments.Topics.{topic_ids}
use Rattle.campaign_core.proofs.Rulings.LabelRulings.{FoundTopic, doc-given, doc-outside, doc-unknown, doc-unlabelled, topic-there}
use Rattle.campaign_core.proofs.Rulings.KeptTopics.{Placed, known-topic, states-long, unknown-topic}
use Rattle.campaign_core.proofs.Numbers.TopicPlaces.{known-place}
use Rattle.campaign_core.proofs.Lists.Elements.{get-map}
use Rattle.campaign_core.proofs.decisions.documents.graded_place.Goals.{After-labelled}
use Rattle.campaign_core.proofs.decisions.documents.graded_place.Goals as goal

-- the topic that was found
there : (c : After-labelled) → FoundTopic c.args.campaign.now.history.items c.args.docnos.now c.index-topics-number.result.facts c.args.topic.now
there c =
    let campaign = c.args.campaign.now in
    let H = campaign.history.items in
    let all = campaign.assessment.topics.topics in
    let topic = c.index-topics-number.result in
    let topic_is = ap facts_of (c.index-topics-number.is ∙ ap (λ (items : List TopicView). get_or items c.in-Some.number topic) c.topics-topics.ensures)
    ∙ sym (get-map facts_of all c.in-Some.number topic) in
    let found = known-place all c.topics-topics.result.now
    (Some c.in-Some.number) c.bytes.result.now c.args.topic.now c.topics-topics.ensures c.bytes.ensures c.in-Some.ensures in
    topic-there H (map facts_of all) campaign.assessment.leases c.args.docnos.now c.args.topic.now c.in-Some.number
    topic.facts c.requires.known.assessed.knows c.requires.docnos_are found topic_is

-- whether it has the label, by what was looked up
label-is : (c : After-labelled) → is_some c.labelled.result
    ≡ is_labelled_for c.args.campaign.now.history.items c.args.topic.now c.args.doc.now (option_map (λ name. name.now) c.args.assessor)
label-is c =
    c.labelled.ensures.labelled c.args.campaign.now.history.items (there c).labelled
    ∙ ap (λ (id : Text). is_labelled_for c.args.campaign.now.history.items id c.args.doc.now (option_map (λ name. name.now) c.args.assessor)) (there c).id_is

-- its number
place : (c : After-labelled)
    → Placed c.args.campaign.now.history.items (map facts_of c.args.campaign.now.assessment.topics.topics) c.args.topic.now c.in-Some.number
place c =
    let campaign = c.args.campaign.now in
    let all = campaign.assessment.topics.topics in
    known-topic campaign.history.items (map facts_of all) c.args.topic.now c.in-Some.number c.requires.known.assessed.knows.topics_are
    (known-place all c.topics-topics.result.now
    (Some c.in-Some.number) c.bytes.result.now c.args.topic.now c.topics-topics.ensures c.bytes.ensures c.in-Some.ensures)

pub returns-in_default-clause-ruling : goal.returns-in_default-clause-ruling
returns-in_default-clause-ruling c =
    let campaign = c.args.campaign.now in
    let H = campaign.history.items in
    let all = campaign.assessment.topics.topics in
    let labelled = is_labelled_for H c.args.topic.now c.args.doc.now (option_map (λ name. name.now) c.args.assessor) in
    doc-unknown H c.args.topic.now labelled c.args.grade campaign.phase c.requires.known.phase_is c.if-not-is_in.ensures
    (unknown-topic H (map facts_of all) c.args.topic.now c.requires.known.assessed.knows.topics_are
    (known-place all c.topics-topics.result.now None c.bytes.result.now c.args.topic.now c.topics-topics.ensures c.bytes.ensures c.in_default.ensures))

pub returns-in_default-labelled-clause-ruling : goal.returns-in_default-labelled-clause-ruling
returns-in_default-labelled-clause-ruling c =
    let before = (goal.at.returns-in_default-labelled-clause-ruling c).After-labelled in
    doc-unlabelled c.args.campaign.now.history.items c.args.topic.now _ c.args.grade c.args.campaign.now.phase c.requires.known.phase_is c.if-not-is_in.ensures
    (there before).listed
    (sym (label-is before) ∙ ap is_some c.in_default-labelled.is)

pub returns-then-grade-rules-clause-ruling : goal.returns-then-grade-rules-clause-ruling
returns-then-grade-rules-clause-ruling c =
    let before = (goal.at.returns-then-grade-rules-clause-ruling c).After-labelled in
    let above : (rules_of c.args.campaign.now.history.items).top_grade < c.args.grade =
    omega (arith, ap (λ (r : Rules). r.top_grade) c.rules.ensures, c.if-grade-rules.true) in
    doc-outside c.args.campaign.now.history.items c.args.topic.now _ c.args.grade c.args.campaign.now.phase c.requires.known.phase_is c.if-not-is_in.ensures
    (there before).listed
    (sym (label-is before) ∙ ap is_some c.in-Some-labelled.is) above

pub returns-clause-ruling : goal.returns-clause-ruling
returns-clause-ruling c =
    let before = (goal.at.returns-clause-ruling c).After-labelled in
    let within : c.args.grade ≤ (rules_of c.args.campaign.now.history.items).top_grade =
    omega (arith, ap (λ (r : Rules). r.top_grade) c.rules.ensures, c.if-grade-rules.false) in
    doc-given c.args.campaign.now.history.items c.args.topic.now _ c.args.grade c.args.campaign.now.phase c.requires.known.phase_is c.if-not-is_in.ensures
    (there before).listed
    (sym (label-is before) ∙ ap is_some c.in-Some-labelled.is) within

pub returns-clause-place : goal.returns-clause-place
returns-clause-place c =
    let at = place (goal.at.returns-clause-place c).After-labelled in
    let number : IsNumberOf c.args.docnos.now c.args.doc.now c.in-Some-labelled.place = c.in-Some-labelled.ensures.number in
    record { number_is = at.number_is; at_is = number.number_is; listed = at.listed; doc_named = number.named }

pub overflow_cast-result : goal.overflow_cast-result
overflow_cast-result c =
    let at = place (goal.at.overflow_cast-result c).After-labelled in
    let knows = c.requires.known.assessed.knows in
    let H = c.args.campaign.now.history.items in
    omega (arith, at.within, states-long H (map facts_of c.args.campaign.now.assessment.topics.topics) (topic_ids H) knows.topics_are, knows.topics_fit)
