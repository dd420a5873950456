-- The effective grades of a ranked list, by rank. A document that isn't judged has none.
use Rattle.std.specs.Prelude.{ℕ, List, Option, if◌then◌else◌, take, count_by, sum_by}
use Rattle.std.specs.List.{enumerate_from}
pub use Rattle.decimal_rank.specs.Relevance.{is_non_relevant, is_relevant}

-- the relevant documents in ranks 1 to k
abbrev pub relevant_to : ℕ → List (Option ℕ) → ℕ → ℕ
relevant_to level grades k = count_by (is_relevant level) (take k grades)

-- the documents in ranks 1 to k that are judged and not relevant
abbrev pub non_relevant_to : ℕ → List (Option ℕ) → ℕ → ℕ
non_relevant_to level grades k = count_by (is_non_relevant level) (take k grades)

-- the sum of f over the ranks of the relevant documents
abbrev pub sum_over_relevant : ℕ → List (Option ℕ) → (ℕ → ℕ) → ℕ
sum_over_relevant level grades f =
    sum_by (λ d. if is_relevant level d.1 then f d.0 else 0) (enumerate_from 1 grades)
