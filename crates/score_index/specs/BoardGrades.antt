-- The grades of its topics that a board stands for, and what it tells of them.
use Rattle.std.specs.Prelude.{◌≡◌, ℕ, ◌+◌, ◌-◌, ◌≤◌, Bool, List, [], Option, All, count_by, filter, map, nat_lt, slice_index_or, unwrap_or, zip}
use Rattle.std.specs.List.{AllZip}
use Rattle.decimal_rank.specs.declared.naming.DocId.{DocId}
use Rattle.depth_pool.specs.declared.runs.RunId.{RunId}
use Rattle.measures.specs.Cells.{cell_of}
use Rattle.measures.specs.declared.cells.Cell.{Cell}
use Rattle.qrels_view.specs.Grades.{as_number, effective_in, is_non_relevant, is_relevant}
use Rattle.qrels_view.specs.declared.grades.Graded.{Graded}
use Rattle.score_index.specs.Scores.{ScoreList, Scores, TopicScores, run_docs}

-- how many documents of a topic are relevant
abbrev pub relevant_of : ℕ → List Graded → ℕ
relevant_of level graded = count_by (λ one. is_relevant level one.grade) graded

-- how many documents of a topic have a grade and aren't relevant
abbrev pub non_relevant_of : ℕ → List Graded → ℕ
non_relevant_of level graded = count_by (λ one. is_non_relevant level one.grade) graded

-- the grades of a list's documents by rank
abbrev pub grades_by_rank : List Graded → List DocId → List (Option ℕ)
grades_by_rank graded docs = map (effective_in graded) docs

-- what is kept of a list is what these grades of the topic's documents give
pub record ListStandsFor (level : ℕ) (graded : List Graded) (list : ScoreList) : Type 0 where
  pub relevant_are : list.relevant ≡ map (λ doc. is_relevant level (effective_in graded doc)) list.docs
  pub lower_are : list.lower ≡ map (λ doc. is_non_relevant level (effective_in graded doc)) list.docs

-- what is kept of a topic is what these grades of its documents give
pub record TopicStandsFor (level : ℕ) (topic : TopicScores) (graded : List Graded) : Type 0 where
  pub relevant_is : topic.relevant ≡ relevant_of level graded
  pub non_relevant_is : topic.non_relevant ≡ non_relevant_of level graded
  pub lists_are : All (ListStandsFor level graded) topic.lists

-- so it is by the topic's own level
abbrev pub StandsAt : TopicScores → List Graded → Type 0
StandsAt topic graded = TopicStandsFor topic.level topic graded

-- so it is for each topic, and there are grades for as many topics
abbrev pub StandsFor : Scores → List (List Graded) → Type 0
StandsFor scores grades = AllZip StandsAt scores.topics grades

-- the grades on a topic
abbrev pub grades_at : List (List Graded) → ℕ → List Graded
grades_at grades topic = slice_index_or grades topic []

-- a topic stands for grades in which a document has this grade
pub record StandsWith (topic : TopicScores) (doc : DocId) (grade : Option ℕ) : Type 0 where
  pub graded : List Graded
  pub stands : StandsAt topic graded
  pub grade_is : effective_in graded doc ≡ grade

-- a topic still has few documents that are relevant, and few that are judged lower, where a document's grade `old` becomes `new`
pub record StaysSmall (level : ℕ) (topic : TopicScores) (old new : Option ℕ) : Type 0 where
  pub relevant : topic.relevant + as_number (is_relevant level new) - as_number (is_relevant level old) ≤ 268435456
  pub non_relevant : topic.non_relevant + as_number (is_non_relevant level new) - as_number (is_non_relevant level old) ≤ 268435456

-- the cell of a list on a topic with these grades
abbrev pub cell_from : ℕ → List Graded → List DocId → Cell
cell_from level graded docs = cell_of (grades_by_rank graded docs) (relevant_of level graded) (non_relevant_of level graded) level

-- the documents of a run by rank, and the empty list where it has none
abbrev pub listed_in : RunId → TopicScores → List DocId
listed_in run topic = unwrap_or (run_docs run topic) []

-- a topic counts where at least one document has a grade
abbrev pub is_counted_by : ℕ → List Graded → Bool
is_counted_by level graded = nat_lt 0 (relevant_of level graded + non_relevant_of level graded)

-- the cells of a run on the counted topics
abbrev pub cells_of : RunId → List TopicScores → List (List Graded) → List Cell
cells_of run topics grades = map (λ p. cell_from p.0.level p.1 (listed_in run p.0)) (filter (λ p. is_counted_by p.0.level p.1) (zip topics grades))
