use Rattle.std.proofs.Common.{◌∙◌, ap}
use Rattle.qrels_view.specs.Grades.{effective_in}
use Rattle.qrels_view.specs.GradeViews.{GradeView}
use Rattle.qrels_view.proofs.NewGrades.{grade_found, looked_up}
use Rattle.qrels_view.proofs.view.View.effective.Goals as goal

pub returns-in_err-get : goal.returns-in_err-get
returns-in_err-get c =
    c.from_residual.ensures ∙ ap grade_found c.in_err-get.ensures.value ∙ looked_up c.args.doc c.self.inside.grades.entries
    ∙ ap (λ (view : GradeView). effective_in view.graded c.args.doc) c.self.view_is

pub returns : goal.returns
returns c = ap grade_found c.in_ok-get.ensures.value ∙ looked_up c.args.doc c.self.inside.grades.entries
    ∙ ap (λ (view : GradeView). effective_in view.graded c.args.doc) c.self.view_is
