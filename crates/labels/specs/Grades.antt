-- The effective grade of a document, by the grades of its labels and its last ruling.
use Rattle.std.specs.Prelude.{ℕ, ◌+◌, ◌==◌, Bool, false, not, ◌&&◌, List, [], ◌∷◌, Option, Some, None, is_none, length, if◌then◌else◌}
use Rattle.std.specs.List.{list_all}
use Rattle.std.specs.Option.{option_or}

-- the grade of exactly so many labels that agree
abbrev pub common_grade : ℕ → List ℕ → Option ℕ
common_grade need [] = None
common_grade need (grade ∷ grades) = if (length grades + 1 == need) && list_all (λ other. other == grade) grades then Some grade else None

-- the last ruling, or else the grade of as many labels as are needed
abbrev pub effective_grade : ℕ → List ℕ → Option ℕ → Option ℕ
effective_grade need grades ruling = option_or ruling (common_grade need grades)

-- whether these are two grades, and differ
abbrev pub grades_differ : List ℕ → Bool
grades_differ (first ∷ second ∷ []) = not (first == second)
grades_differ _ = false

-- two labels that differ, where two are needed, and no ruling
abbrev pub shows_disagreement : ℕ → List ℕ → Option ℕ → Bool
shows_disagreement need grades ruling = (need == 2) && grades_differ grades && is_none ruling
