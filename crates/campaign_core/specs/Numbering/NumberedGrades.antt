-- Cells by grades that are some of the effective ones, by the numbers of documents.
use Rattle.std.specs.Prelude.{◌≡◌, List, IsTrue, is_some, map}
use Rattle.qrels_view.specs.declared.grades.Graded.{Graded}
use Rattle.rulebook.specs.Words.{Text}
use Rattle.rulebook.specs.Campaign.{History, Run, docs_on, level}
use Rattle.campaign_core.specs.Views.Gradings.{Grading, cell_by_grading}
use Rattle.rulebook.specs.Judgements.Grades.{effective, trail}
use Rattle.rulebook.specs.Histories.Legal.{IsLegal}
use Rattle.score_index.specs.BoardGrades.{cell_from}
use Rattle.campaign_core.specs.Numbering.Numbers.{are_named, doc_in, names_of}
use Rattle.campaign_core.specs.Assessments.RunScores.{list_on}

-- a document has a grade only where it has an effective one
abbrev pub Narrows : History → Text → Grading → Type 0
Narrows H topic grade = (doc : Text) → IsTrue (is_some (grade doc)) → IsTrue (is_some (effective H topic doc))

-- documents by their numbers, each with a grade
abbrev pub graded_as : List Text → Grading → List Text → List Graded
graded_as names grade docs = map (λ doc. record { doc = doc_in names doc; grade = grade doc }) docs

-- The cell of a run by the grades of the trail's documents, and by the numbers of its own, is the one by these grades.
abbrev pub CellsByNumbers : Type 0
CellsByNumbers =
    (H : History) (topic : Text) (grade : Grading) (run : Run) → IsLegal H
    → IsTrue (are_named (names_of H) (trail H topic)) → IsTrue (are_named (names_of H) (docs_on run.lists topic)) → Narrows H topic grade
    → cell_from (level H topic) (graded_as (names_of H) grade (trail H topic)) (list_on (names_of H) topic run) ≡ cell_by_grading H run topic grade
