-- What contracts see of a view, and what it keeps beside.
use Rattle.std.specs.Prelude.{◌≡◌, ℕ, ◌<◌, ◌^◌, List, count_by, length}
use Rattle.decimal_rank.specs.declared.naming.DocId.{DocId}
use Rattle.qrels_view.specs.Grades.{graded_docs, is_non_relevant, is_relevant}
use Rattle.qrels_view.specs.declared.counts.Counts.{Counts}
use Rattle.qrels_view.specs.declared.grades.Graded.{Graded}

-- the level, the documents with their grades in the order of their first grades, and the room for more of them
pub record GradeView : Type 0 where
  pub level : ℕ
  pub graded : List Graded
  pub spare : ℕ

-- the trail has the documents, and the counts are of the relevant and of the non-relevant ones
pub record IsKept (level : ℕ) (trail : List DocId) (graded : List Graded) (counts : Counts) : Type 0 where
  pub trail_is : trail ≡ graded_docs graded
  pub relevant_is : counts.relevant ≡ count_by (λ one. is_relevant level one.grade) graded
  pub non_relevant_is : counts.non_relevant ≡ count_by (λ one. is_non_relevant level one.grade) graded
  pub few : length graded < 2 ^ 32
