-- What contracts see of a board.
use Rattle.std.specs.Prelude.{◌≡◌, ℕ, ◌+◌, ◌*◌, ◌==◌, Bool, List, [], Option, None, Some, Contains, count_by, find, length, map, slice_index_or, sum_by}
use Rattle.std.specs.Option.{option_map}
use Rattle.decimal_rank.specs.Rankings.Places.{levels}
use Rattle.decimal_rank.specs.declared.naming.DocId.{DocId}
use Rattle.depth_pool.specs.declared.runs.RunId.{RunId}

-- a run's list on a topic: its documents by rank, which of them are relevant and which are judged lower, and how many of the topic's documents are so
pub record ScoreList : Type 0 where
  pub run : RunId
  pub docs : List DocId
  pub relevant : List Bool
  pub lower : List Bool
  pub rel : ℕ
  pub low : ℕ

-- a topic: the grade from which on a document is relevant, how many documents are, how many have a grade and aren't, and the lists of the runs
pub record TopicScores : Type 0 where
  pub level : ℕ
  pub relevant : ℕ
  pub non_relevant : ℕ
  pub lists : List ScoreList

-- a board: its topics, and the lengths of the lists for which there is room
pub record Scores : Type 0 where
  pub topics : List TopicScores
  pub rooms : List ℕ

-- the levels of a board's topics
abbrev pub board_levels : Scores → List ℕ
board_levels scores = map (λ topic. topic.level) scores.topics

-- a board keeps its topics and their lists: only its room changes
abbrev pub KeepsScores : Scores → Scores → Type 0
KeepsScores old new = new.topics ≡ old.topics

-- a board keeps its topics' levels, so as many topics too
abbrev pub KeepsShape : Scores → Scores → Type 0
KeepsShape old new = board_levels new ≡ board_levels old

-- whether a list is a run's
abbrev pub is_of_run : RunId → ScoreList → Bool
is_of_run run list = list.run.0 == run.0

-- the documents of a run by rank: none where it has no list
abbrev pub run_docs : RunId → TopicScores → Option (List DocId)
run_docs run topic = option_map (λ list. list.docs) (find (is_of_run run) topic.lists)

-- a topic of a level without grades and lists
abbrev pub new_topic_scores : ℕ → TopicScores
new_topic_scores level = record { level = level; relevant = 0; non_relevant = 0; lists = [] }

abbrev pub no_topic : TopicScores
no_topic = new_topic_scores 0

abbrev pub topic_scores_at : Scores → ℕ → TopicScores
topic_scores_at scores topic = slice_index_or scores.topics topic no_topic

-- the documents of a run on a topic by rank: none where it has no list there
abbrev pub run_docs_at : Scores → RunId → ℕ → Option (List DocId)
run_docs_at scores run topic = run_docs run (topic_scores_at scores topic)

-- for how many lists of a length there is room
abbrev pub rooms_for : ℕ → Scores → ℕ
rooms_for len scores = count_by (λ room. room == len) scores.rooms

-- how many steps a list of so many documents may take to follow a grade
abbrev pub follow_steps : ℕ → ℕ
follow_steps len = 20 * (levels len + 1)

-- the same for a list, and none where there is no list
abbrev pub list_steps : Option (List DocId) → ℕ
list_steps None = 0
list_steps (Some docs) = follow_steps (length docs)

-- how many steps the lists of these runs on a topic may take to follow a grade
abbrev pub steps_of : List RunId → TopicScores → ℕ
steps_of runs topic = sum_by (λ run. list_steps (run_docs run topic)) runs

-- each run that has a list on a topic is among these
abbrev pub HasRuns : List RunId → TopicScores → Type 0
HasRuns runs topic = (run : RunId) (docs : List DocId) → run_docs run topic ≡ Some docs → Contains runs run
