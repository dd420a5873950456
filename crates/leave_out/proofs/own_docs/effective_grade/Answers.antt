use Rattle.std.proofs.Common.{◌≡◌, ◌∙◌, List, Option, true, ap, subst, sym}
use Rattle.std.specs.Prelude.{IsTrue}
use Rattle.std.specs.Option.{IsSomeAnd}
use Rattle.qrels_view.specs.Grades.{effective_in}
use Rattle.qrels_view.specs.declared.grades.Graded.{Graded}
use Rattle.rulebook.specs.Judgements.Grades.{trail}
use Rattle.rulebook.specs.Words.{Text}
use Rattle.campaign_core.specs.Views.LentTopics.{graded_on, topic_at}
use Rattle.campaign_core.specs.Numbering.Numbers.{are_named, names_of}
use Rattle.leave_out.proofs.Elements.{told}
use Rattle.leave_out.proofs.Reductions.GradedDocs.{effective-numbered}
use Rattle.leave_out.proofs.own_docs.effective_grade.Goals as goal

pub returns : goal.returns
returns c = λ id d doc.
    let H = c.args.state.now.history in
    let graded_is : graded_on H id ≡ c.view.result.now.graded =
    told (topic_at H c.args.topic) id (graded_on H) c.view.result.now.graded doc.at c.view.ensures.graded in
    let trail_named : are_named (names_of H) (trail H id) ≡ true =
    subst (λ (o : Option Text). IsSomeAnd o (λ id. IsTrue (are_named (names_of H) (trail H id)))) doc.at c.view.ensures.named in
    c.effective.ensures
    ∙ ap (λ (graded : List Graded). effective_in graded c.args.doc) (sym graded_is)
    ∙ ap (effective_in (graded_on H id)) doc.number_is
    ∙ effective-numbered H id c.graded_are_there.ensures c.entries-entries.ensures.legal trail_named d doc.named
