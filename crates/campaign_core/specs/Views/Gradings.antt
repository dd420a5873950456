-- The scores of a campaign's runs by any grades of its documents. H is its list of accepted entries.
use Rattle.std.specs.Prelude.{ℕ, Bool, List, Option, count_by, filter, is_some, length, map, nat_lt}
use Rattle.decimal_rank.specs.Relevance.{is_non_relevant, is_relevant}
use Rattle.measures.specs.Cells.{cell_of}
use Rattle.measures.specs.Means.{summary_of}
use Rattle.measures.specs.declared.cells.Cell.{Cell}
use Rattle.measures.specs.declared.means.Summary.{Summary}
use Rattle.rulebook.specs.Words.{Text}
use Rattle.rulebook.specs.Campaign.{History, Run, docs_on, level, topics}
use Rattle.rulebook.specs.Judgements.Grades.{labelled_documents}

-- the grade of each document of a topic: none where it has none
abbrev pub Grading : Type 0
Grading = Text → Option ℕ

-- the documents of a topic that have a grade
abbrev pub graded_by : History → Text → Grading → List Text
graded_by H topic grade = filter (λ doc. is_some (grade doc)) (labelled_documents H topic)

-- those that are relevant, and those with a lower grade
abbrev pub relevant_by : History → Text → Grading → ℕ
relevant_by H topic grade = count_by (λ doc. is_relevant (level H topic) (grade doc)) (graded_by H topic grade)

abbrev pub non_relevant_by : History → Text → Grading → ℕ
non_relevant_by H topic grade = count_by (λ doc. is_non_relevant (level H topic) (grade doc)) (graded_by H topic grade)

-- the cell of a run on a topic
abbrev pub cell_by_grading : History → Run → Text → Grading → Cell
cell_by_grading H run topic grade = cell_of (map grade (docs_on run.lists topic)) (relevant_by H topic grade) (non_relevant_by H topic grade) (level H topic)

-- a topic counts where at least one of its documents has a grade
abbrev pub counts_by : History → Text → Grading → Bool
counts_by H topic grade = nat_lt 0 (length (graded_by H topic grade))

-- the sums and means of a run over the topics that count, where each topic has grades
abbrev pub summary_by : History → Run → (Text → Grading) → Summary
summary_by H run grades =
    summary_of (map (λ topic. cell_by_grading H run topic (grades topic)) (filter (λ topic. counts_by H topic (grades topic)) (map (λ t. t.id) (topics H))))
