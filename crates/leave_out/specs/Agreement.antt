-- How the assessors of a campaign agree. H is its list of accepted entries.
use Rattle.std.specs.Prelude.{ℕ, ◌==◌, List, [], ◌∷◌, Option, None, Some, count_by, filter, if◌then◌else◌, length, map}
use Rattle.std.specs.List.{filter_map}
use Rattle.labels.specs.declared.given.Given.{Given}
use Rattle.rulebook.specs.Words.{Text}
use Rattle.rulebook.specs.Campaign.{History, level, need}
use Rattle.rulebook.specs.Judgements.Grades.{labelled_documents, labels_on}
use Rattle.rulebook.specs.Reports.Pages.{topics_in_order}
use Rattle.leave_out.specs.Pairs.{are_both, are_equal, is_either}
use Rattle.leave_out.specs.declared.assessors.Agreed.{Agreed}

-- the grades of two labels, where there are two
abbrev pub two_grades : List Given → Option (ℕ × ℕ)
two_grades (a ∷ b ∷ []) = Some (a.grade, b.grade)
two_grades _ = None

-- two grades, where both are there
abbrev pub two_of : List (Option ℕ) → Option (ℕ × ℕ)
two_of (Some first ∷ Some second ∷ []) = Some (first, second)
two_of _ = None

-- the grades of a topic's documents that have two labels; rulings aren't looked at
abbrev pub pairs_on : History → Text → List (ℕ × ℕ)
pairs_on H topic = filter_map (λ doc. two_grades (labels_on H topic doc)) (labelled_documents H topic)

-- a topic whose documents have these pairs of grades, where a grade from the level on is relevant
abbrev pub agreement_of : ℕ → Text → List (ℕ × ℕ) → Agreed
agreement_of level topic grades = record {
  topic = topic;
  pairs = length grades;
  equal = count_by are_equal grades;
  both = count_by (are_both level) grades;
  either = count_by (is_either level) grades;
}

-- a topic, where its documents need two labels
abbrev pub agreed_on : History → Text → Option Agreed
agreed_on H topic = if need H topic == 2 then Some (agreement_of (level H topic) topic (pairs_on H topic)) else None

-- the topics whose documents need two labels, by id
abbrev pub agreement : History → List Agreed
agreement H = map (λ topic. agreement_of (level H topic) topic (pairs_on H topic)) (filter (λ topic. need H topic == 2) (topics_in_order H))
