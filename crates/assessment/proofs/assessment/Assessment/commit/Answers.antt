use Rattle.std.proofs.Common.{◌≤◌, ◌+◌, Option, arith, subst, sym}
use Rattle.std.specs.Prelude.{IfSome}
use Rattle.assessment.specs.Changes.{AssessmentView, facts, with_waiting_lists}
use Rattle.assessment.specs.Costs.{HaveLists, change_steps}
use Rattle.assessment.specs.TopicsFacts.{topics_facts}
use Rattle.assessment.specs.declared.change.Change.{Change}
use Rattle.assessment.proofs.RunChanges.WaitingChanges.{change-more, have-all}
use Rattle.assessment.proofs.assessment.Assessment.commit.Goals as goal

pub returns-in-Some-clause-cost : goal.returns-in-Some-clause-cost
returns-in-Some-clause-cost g c = λ runs have.
    let all = c.self.inside in
    let known = topics_facts all.topics in
    let new = c.self.invariant.may_come.each_new in
    let have_all = have-all all.waiting.runs known new runs (subst (λ (v : AssessmentView). HaveLists runs (facts v).topics) (sym c.self.view_is) have) in
    let cost = c.make.ensures.cost runs have_all in
    let more = change-more all.waiting.runs known new runs c.in-Some.change in
    let within : c.make.new.steps ≤ c.args.steps.now + change_steps runs c.in-Some.change (with_waiting_lists all.waiting.runs known) =
    omega (arith, cost, more) in
    subst (λ (v : AssessmentView). IfSome v.pending (λ change. c.make.new.steps ≤ c.args.steps.now + change_steps runs change (facts v).topics)) c.self.view_is
    (subst (λ (o : Option Change). IfSome o
    (λ change. c.make.new.steps ≤ c.args.steps.now + change_steps runs change (with_waiting_lists all.waiting.runs known))) c.in-Some.ensures.value within)
