-- How many documents of a topic count, after the grade of one of them changes.
use Rattle.std.specs.Prelude.{◌+◌, ◌-◌, ◌≤◌, ℕ, Bool, Option}
use Rattle.qrels_view.specs.Grades.{as_number, is_non_relevant, is_relevant}
use Rattle.qrels_view.specs.declared.counts.Counts.{Counts}

-- a count after one document was counted or not, and now is or not
abbrev pub recounted_from : ℕ → Bool → Bool → ℕ
recounted_from count was is = count + as_number is - as_number was

-- a document with this grade is among what is counted
pub record IsCounted (level : ℕ) (grade : Option ℕ) (counts : Counts) : Type 0 where
  pub relevant : as_number (is_relevant level grade) ≤ counts.relevant
  pub non_relevant : as_number (is_non_relevant level grade) ≤ counts.non_relevant
