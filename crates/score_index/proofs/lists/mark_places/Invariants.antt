-- The places so far have the marks of their documents, and the sums are those of the marks.
use Rattle.qrels_view.specs.Grades.{effective_in, is_non_relevant, is_relevant}
use Rattle.score_index.specs.KeptSums.{AreSums}
use Rattle.score_index.proofs.GradeChanges.MarkedPlaces.{AreMarked}
use Rattle.score_index.proofs.lists.mark_places.Given as goal

abbrev pub invariant-loop-place : goal.invariant-loop-place
invariant-loop-place g l = record {
  relevant : AreMarked (λ doc. is_relevant l.level (effective_in l.view.graded doc)) l.ranking l.trees.relevant l.place;
  lower : AreMarked (λ doc. is_non_relevant l.level (effective_in l.view.graded doc)) l.ranking l.trees.lower l.place;
  sums_are : AreSums l.cap l.trees l.sums;
}
