-- What the tests keep true of a board with two topics.
use Rattle.std.specs.Prelude.{◌≡◌, [], ◌∷◌, length}
use Rattle.qrels_view.specs.GradeViews.{GradeView}
use Rattle.score_index.specs.Scores.{Scores}
use Rattle.score_index.specs.BoardGrades.{StandsFor}

-- the board has two topics, and stands for the grades of two views
pub record IsBoardOfTwo (scores : Scores) (first second : GradeView) : Type 0 where
  pub two : length scores.topics ≡ 2
  pub stands : StandsFor scores (first.graded ∷ second.graded ∷ [])
