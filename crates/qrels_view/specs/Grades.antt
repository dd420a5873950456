-- The grades of a topic's documents, by the documents' first grades.
use Rattle.std.specs.Prelude.{ℕ, ◌==◌, Bool, true, false, List, [], ◌∷◌, Option, Some, None, map, if◌then◌else◌}
pub use Rattle.decimal_rank.specs.Relevance.{is_non_relevant, is_relevant}
use Rattle.decimal_rank.specs.declared.naming.DocId.{DocId}
use Rattle.qrels_view.specs.declared.grades.Graded.{Graded}

-- the documents, in their order
abbrev pub graded_docs : List Graded → List DocId
graded_docs graded = map (λ one. one.doc) graded

-- the grade of a document: none where it isn't listed
abbrev pub effective_in : List Graded → DocId → Option ℕ
effective_in [] doc = None
effective_in (graded ∷ later) doc = if doc.0 == graded.doc.0 then graded.grade else effective_in later doc

-- a document that gets its first grade, and nothing where it gets none
abbrev pub first_grade : DocId → Option ℕ → List Graded
first_grade doc None = []
first_grade doc (Some grade) = record { doc = doc; grade = Some grade } ∷ []

-- the documents after one of them gets a grade, or none: it keeps its place, and goes last where it wasn't listed
abbrev pub with_grade : DocId → Option ℕ → List Graded → List Graded
with_grade doc grade [] = first_grade doc grade
with_grade doc grade (graded ∷ later) =
    if doc.0 == graded.doc.0 then record { doc = graded.doc; grade = grade } ∷ later else graded ∷ with_grade doc grade later

-- 1 for what counts, and 0 for what doesn't
abbrev pub as_number : Bool → ℕ
as_number true = 1
as_number false = 0

-- the documents with their grades, from pairs of a document's number and its grade
abbrev pub graded_of : List (ℕ × Option ℕ) → List Graded
graded_of entries = map (λ entry. record { doc = record { 0 = entry.0 }; grade = entry.1 }) entries
