use Rattle.std.proofs.Common.{◌∙◌, ◌+◌, ap, ℕ}
use Rattle.std.specs.Option.{option_map}
use Rattle.decimal_rank.specs.Rankings.Places.{place_in}
use Rattle.qrels_view.specs.Grades.{graded_docs}
use Rattle.qrels_view.specs.GradeViews.{GradeView}
use Rattle.qrels_view.proofs.TrailPlaces.{same_place}
use Rattle.qrels_view.proofs.view.View.place.Goals as goal

pub returns-in_err-index-clause-place : goal.returns-in_err-index-clause-place
returns-in_err-index-clause-place c =
    c.from_residual.ensures ∙ ap (option_map (λ (i : ℕ). i + 1)) (c.in_err-index.ensures.index ∙ same_place c.args.doc c.self.inside.grades.entries)
    ∙ ap (λ (view : GradeView). place_in (graded_docs view.graded) c.args.doc) c.self.view_is

pub returns-clause-place : goal.returns-clause-place
returns-clause-place c =
    ap (option_map (λ (i : ℕ). i + 1)) (c.in_ok-index.ensures.index ∙ same_place c.args.doc c.self.inside.grades.entries)
    ∙ ap (λ (view : GradeView). place_in (graded_docs view.graded) c.args.doc) c.self.view_is
