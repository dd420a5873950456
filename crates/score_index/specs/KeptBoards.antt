-- What a board keeps beside what contracts see.
use Rattle.std.specs.Prelude.{◌≡◌, ℕ, ◌+◌, ◌-◌, ◌<◌, ◌≤◌, ◌^◌, Bool, false, List, [], ◌∷◌, Option, Some, None, All, AllPairs, filter, find, if◌then◌else◌, length, map, nat_lt, not, replicate, slice_set, vec_capacity, vec_len}
use Rattle.std.specs.Option.{option_map_or}
use Rattle.decimal_rank.specs.Rankings.Places.{AreDistinct, place_in}
use Rattle.decimal_rank.specs.declared.naming.DocId.{DocId}
use Rattle.depth_pool.specs.declared.runs.RunId.{RunId}
use Rattle.measures.specs.Cells.{cell_of}
use Rattle.measures.specs.declared.cells.Cell.{Cell}
use Rattle.qrels_view.specs.CountedGrades.{recounted_from}
use Rattle.qrels_view.specs.Grades.{effective_in, is_non_relevant, is_relevant}
use Rattle.qrels_view.specs.declared.grades.Graded.{Graded}
use Rattle.rank_trees.specs.PlacesOn.{count_on}
use Rattle.score_index.specs.Places.{Places, cell_by}
use Rattle.score_index.specs.Scores.{ScoreList, TopicScores, is_of_run}
use Rattle.score_index.specs.declared.rooms.Room.{Room}
use Rattle.score_index.specs.declared.topics.ScoredTopic.{ScoredTopic}

-- a topic as contracts see it
abbrev pub topic_scores : ScoredTopic → TopicScores
topic_scores topic = record { level = topic.level; relevant = topic.counts.relevant; non_relevant = topic.counts.non_relevant; lists = topic.lists.items }

-- for how many more lists a topic has room
abbrev pub spare : ScoredTopic → ℕ
spare topic = vec_capacity topic.lists - vec_len topic.lists

-- a list has at most 1,000 documents, each once; no more of them are relevant than the topic has, and it has the topic's counts
pub record IsListKept (relevant non_relevant : ℕ) (list : ScoreList) : Type 0 where
  pub few : length list.docs ≤ 1000
  pub distinct : AreDistinct list.docs
  pub relevant_within : count_on list.relevant ≤ relevant
  pub rel_is : list.rel ≡ relevant
  pub low_is : list.low ≡ non_relevant

-- lists ascend by run, so that no run has two
abbrev pub AreByRun : List ScoreList → Type 0
AreByRun lists = AllPairs (λ one other. one.run.0 < other.run.0) lists

pub record IsTopicKept (topic : TopicScores) : Type 0 where
  pub few_relevant : topic.relevant ≤ 268435456
  pub few_non_relevant : topic.non_relevant ≤ 268435456
  pub lists : All (IsListKept topic.relevant topic.non_relevant) topic.lists
  pub by_run : AreByRun topic.lists

-- a topic keeps the cell of the empty list
abbrev pub HasEmptyCell : ScoredTopic → Type 0
HasEmptyCell topic = topic.empty ≡ cell_of [] topic.counts.relevant topic.counts.non_relevant topic.level

-- the topics keep the cells of the empty list, and have no less room
pub record KeepsPlaces (old new : List ScoredTopic) : Type 0 where
  pub empties : All HasEmptyCell old → All HasEmptyCell new
  pub places : (least : ℕ) → All (λ topic. least ≤ spare topic) old → All (λ topic. least ≤ spare topic) new

-- each topic is kept so, and has a place for each list that has room
pub record IsKept (topics : List ScoredTopic) (rooms : ℕ) : Type 0 where
  pub few : length topics < 2 ^ 16
  pub topics_are : All (λ topic. IsTopicKept (topic_scores topic)) topics
  pub empties : All HasEmptyCell topics
  pub places : All (λ topic. rooms ≤ spare topic) topics

-- for how many documents there is room
abbrev pub room_size : Room → ℕ
room_size room = length room.trees.relevant

-- in a room for a list no place is judged
pub record IsRoom (room : Places) : Type 0 where
  pub no_relevant : room.relevant ≡ replicate (length room.relevant) false
  pub no_lower : room.lower ≡ replicate (length room.relevant) false

-- a value put in at a place, from 1
abbrev pub put_at : {X : Type 0} → Option ℕ → X → List X → List X
put_at None x xs = xs
put_at (Some place) x xs = slice_set xs (place - 1) x

-- a list whose topic has these counts
abbrev pub list_recounted : ℕ → ℕ → ScoreList → ScoreList
list_recounted rel low list = record { run = list.run; docs = list.docs; relevant = list.relevant; lower = list.lower; rel = rel; low = low }

-- a list after a place became relevant or judged lower, or isn't any more, and its topic has these counts
abbrev pub remarked_at : Option ℕ → Bool → Bool → ℕ → ℕ → ScoreList → ScoreList
remarked_at place relevant lower rel low list = record {
  run = list.run;
  docs = list.docs;
  relevant = put_at place relevant list.relevant;
  lower = put_at place lower list.lower;
  rel = rel;
  low = low;
}

-- the same of the place of a document
abbrev pub list_regraded : DocId → Bool → Bool → ℕ → ℕ → ScoreList → ScoreList
list_regraded doc relevant lower rel low list = remarked_at (place_in list.docs doc) relevant lower rel low list

-- a list with these grades, where its topic has these counts
abbrev pub listed_with : ℕ → List Graded → RunId → List DocId → ℕ → ℕ → ScoreList
listed_with level graded run docs rel low = record {
  run = run;
  docs = docs;
  relevant = map (λ doc. is_relevant level (effective_in graded doc)) docs;
  lower = map (λ doc. is_non_relevant level (effective_in graded doc)) docs;
  rel = rel;
  low = low;
}

-- lists with one more, before the first of a greater run
abbrev pub list_placed : ScoreList → List ScoreList → List ScoreList
list_placed list [] = list ∷ []
list_placed list (one ∷ lists) = if nat_lt one.run.0 list.run.0 then one ∷ list_placed list lists else list ∷ one ∷ lists

-- a topic with one more list
abbrev pub scores_with_list : ScoreList → TopicScores → TopicScores
scores_with_list list topic = record { level = topic.level; relevant = topic.relevant; non_relevant = topic.non_relevant; lists = list_placed list topic.lists }

-- a topic after a document's grade `old` becomes `new`
abbrev pub with_regrade : ℕ → DocId → Option ℕ → Option ℕ → TopicScores → TopicScores
with_regrade level doc old new topic = record {
  level = topic.level;
  relevant = recounted_from topic.relevant (is_relevant level old) (is_relevant level new);
  non_relevant = recounted_from topic.non_relevant (is_non_relevant level old) (is_non_relevant level new);
  lists = map (list_regraded doc (is_relevant level new) (is_non_relevant level new)
      (recounted_from topic.relevant (is_relevant level old) (is_relevant level new))
      (recounted_from topic.non_relevant (is_non_relevant level old) (is_non_relevant level new))) topic.lists;
}

-- the lists but for a run's
abbrev pub without : RunId → List ScoreList → List ScoreList
without run lists = filter (λ list. not (is_of_run run list)) lists

-- a topic without the lists of a run
abbrev pub scores_without_run : RunId → TopicScores → TopicScores
scores_without_run run topic = record { level = topic.level; relevant = topic.relevant; non_relevant = topic.non_relevant; lists = without run topic.lists }

-- the relevant places of a run's list, and none where it has no list
abbrev pub relevant_places : RunId → TopicScores → List Bool
relevant_places run topic = option_map_or (λ list. list.relevant) (find (is_of_run run) topic.lists) []

-- the places judged lower of a run's list, and none where it has no list
abbrev pub lower_in : RunId → TopicScores → List Bool
lower_in run topic = option_map_or (λ list. list.lower) (find (is_of_run run) topic.lists) []

-- the cell of a run on a topic
abbrev pub kept_cell : RunId → TopicScores → Cell
kept_cell run topic = cell_by (relevant_places run topic) (lower_in run topic) topic.relevant topic.non_relevant

-- whether a topic has a document with a grade
abbrev pub has_grades : TopicScores → Bool
has_grades topic = nat_lt 0 (topic.relevant + topic.non_relevant)

-- the cells of a run on the topics with grades
abbrev pub kept_cells : RunId → List TopicScores → List Cell
kept_cells run topics = map (kept_cell run) (filter has_grades topics)
