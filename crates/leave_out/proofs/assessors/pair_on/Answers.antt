use Rattle.std.proofs.Common.{◌≡◌, ◌≤◌, ◌∙◌, List, ap, arith, length}
use Rattle.labels.specs.declared.given.Given.{Given}
use Rattle.rulebook.specs.Campaign.{need}
use Rattle.rulebook.specs.Judgements.Grades.{labels_on}
use Rattle.campaign_core.specs.Views.LentTopics.{topic_at}
use Rattle.leave_out.specs.Agreement.{two_grades, two_of}
use Rattle.leave_out.proofs.Elements.{told}
use Rattle.leave_out.proofs.Agreements.TwoLabels.{two-there}
use Rattle.leave_out.proofs.assessors.pair_on.Goals as goal

pub returns : goal.returns
returns c = λ id d at named is.
    let H = c.args.state.now.history in
    let given = c.in_ok-labels.labels.now.given in
    let given_is : given ≡ labels_on H id d = c.in_ok-labels.ensures id d at named is in
    let need_is : need H id ≡ 2 = told (topic_at H c.args.topic) id (need H) 2 at c.requires.two in
    let law = c.labels_are_few.ensures H c.entries-entries.ensures.legal id d in
    let few : length given ≤ 2 = omega (arith, law, need_is, ap (λ (labels : List Given). length labels) given_is) in
    c.two_of.ensures ∙ ap two_of c.grades.ensures ∙ two-there given few ∙ ap two_grades given_is
