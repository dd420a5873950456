use Rattle.std.proofs.Common.{◌∙◌, List, ap, length, lt-ltb, sym}
use Rattle.std.specs.Prelude.{nat_lt, option_map}
use Rattle.decimal_rank.specs.Names.{number_of}
use Rattle.labels.specs.DocumentLabels.{has_label}
use Rattle.labels.specs.LabelledDocuments.{LabelledDocument, given_at}
use Rattle.labels.specs.declared.given.Given.{Given}
use Rattle.rulebook.specs.Words.{Text}
use Rattle.campaign_core.specs.Assessments.TopicLabelling.{is_labelled_for}
use Rattle.campaign_core.specs.Assessments.Topics.{labelled_of}
use Rattle.campaign_core.proofs.Rulings.LabelRulings.{found-labels, number-of-found}
use Rattle.campaign_core.proofs.decisions.documents.labelled.Goals as goal

pub returns-then-has_label-clause-labelled : goal.returns-then-has_label-clause-labelled
returns-then-has_label-clause-labelled c = λ H labelled.
    let at = c.in_ok-number.number in
    let topic = c.args.topic.now.facts in
    let given = found-labels H c.args.docnos.now (labelled_of topic) c.args.doc.now at
    (c.in_ok-number.ensures ∙ ap (number_of c.args.docnos.now) c.bytes.ensures) labelled in
    c.if-has_label.ensures
    ∙ ap (λ (marked : List LabelledDocument). has_label c.bytes-in-Some.result.now (given_at marked at)) c.marks-marks.ensures
    ∙ ap (λ (name : Text). has_label name (given_at topic.marked at)) c.bytes-in-Some.ensures
    ∙ ap (has_label c.in-Some.name.now) given
    ∙ ap (λ o. is_labelled_for H topic.id c.args.doc.now (option_map (λ name. name.now) o)) (sym c.in-Some.is)

pub returns-then-has_label-clause-number : goal.returns-then-has_label-clause-number
returns-then-has_label-clause-number c =
    number-of-found c.args.docnos.now c.args.doc.now c.in_ok-number.number (c.in_ok-number.ensures ∙ ap (number_of c.args.docnos.now) c.bytes.ensures)

pub returns-then-count-gt0-clause-labelled : goal.returns-then-count-gt0-clause-labelled
returns-then-count-gt0-clause-labelled c = λ H labelled.
    let at = c.in_ok-number.number in
    let topic = c.args.topic.now.facts in
    let given = found-labels H c.args.docnos.now (labelled_of topic) c.args.doc.now at
    (c.in_ok-number.ensures ∙ ap (number_of c.args.docnos.now) c.bytes.ensures) labelled in
    sym (lt-ltb 0 c.count.result c.if-count-gt0.true)
    ∙ ap (nat_lt 0) c.count.ensures.count
    ∙ ap (λ (marked : List LabelledDocument). nat_lt 0 (length (given_at marked at))) c.marks-marks.ensures
    ∙ ap (λ (given : List Given). nat_lt 0 (length given)) given
    ∙ ap (λ o. is_labelled_for H topic.id c.args.doc.now (option_map (λ name. name.now) o)) (sym c.in-None.is)

pub returns-then-count-gt0-clause-number : goal.returns-then-count-gt0-clause-number
returns-then-count-gt0-clause-number c =
    number-of-found c.args.docnos.now c.args.doc.now c.in_ok-number.number (c.in_ok-number.ensures ∙ ap (number_of c.args.docnos.now) c.bytes.ensures)
