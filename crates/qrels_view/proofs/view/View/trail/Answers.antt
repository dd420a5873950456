use Rattle.std.proofs.Common.{◌∙◌, length, ap, sym, subst}
use Rattle.decimal_rank.specs.Rankings.Places.{AreDistinct}
use Rattle.qrels_view.specs.Grades.{graded_of}
use Rattle.qrels_view.specs.GradeViews.{GradeView}
use Rattle.qrels_view.proofs.SortedDocs.{docs_as_many, docs_once, each_once}
use Rattle.qrels_view.proofs.view.View.trail.Goals as goal

pub returns-clause-once : goal.returns-clause-once
returns-clause-once c =
    let entries = c.self.inside.grades.entries in
    subst AreDistinct (sym (c.as_slice.ensures.value ∙ c.self.invariant.trail_is)) (docs_once (graded_of entries) (each_once entries c.len.ensures.unique))

pub returns-clause-len : goal.returns-clause-len
returns-clause-len c =
    ap length (c.as_slice.ensures.value ∙ c.self.invariant.trail_is) ∙ docs_as_many (graded_of c.self.inside.grades.entries)
    ∙ ap (λ (view : GradeView). length view.graded) c.self.view_is
