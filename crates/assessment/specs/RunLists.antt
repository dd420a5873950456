-- The ranked lists of a run on the topics, and their room on the board.
use Rattle.std.specs.Prelude.{◌≡◌, ◌<◌, ◌==◌, ℕ, Bool, false, List, [], ◌∷◌, Option, None, Some, count_by, length, slice_get, slice_index_or, if◌then◌else◌}
use Rattle.std.specs.Option.{option_map_or}
use Rattle.decimal_rank.specs.declared.naming.DocId.{DocId}
use Rattle.depth_pool.specs.declared.runs.RunId.{RunId}
use Rattle.score_index.specs.Scores.{Scores, rooms_for}
use Rattle.assessment.specs.TopicFacts.{AwaitsRun, TopicFacts, TopicView, topic_with_list}

-- the ranked list of each run on each topic: none where it has no documents there
abbrev pub RankedLists : Type 0
RankedLists = RunId → ℕ → Option (List DocId)

-- a list, and nothing where it is empty
abbrev pub unless_empty : {X : Type 0} → List X → Option (List X)
unless_empty [] = None
unless_empty (x ∷ xs) = Some (x ∷ xs)

-- the ranked lists with those of a run on the topics, of which the empty ones are none
abbrev pub with_lists : RunId → List (List DocId) → RankedLists → RankedLists
with_lists run lists before other on = if run.0 == other.0 then option_map_or unless_empty (slice_get lists on) (before other on) else before other on

-- the ranked lists but for a run's
abbrev pub rankings_without : RunId → RankedLists → RankedLists
rankings_without run before other on = if run.0 == other.0 then None else before other on

-- each topic with a run, which has a list on each
abbrev pub each_with_list : RunId → List (List DocId) → List TopicFacts → List TopicFacts
each_with_list run [] topics = topics
each_with_list run (docs ∷ lists) [] = []
each_with_list run (docs ∷ lists) (topic ∷ topics) = topic_with_list run docs topic ∷ each_with_list run lists topics

-- whether a list has documents, and so many
abbrev pub has_length : ℕ → List DocId → Bool
has_length len [] = false
has_length len (doc ∷ docs) = length (doc ∷ docs) == len

-- the board has room for these lists, and for no others
abbrev pub IsReservedFor : List (List DocId) → Scores → Type 0
IsReservedFor lists board = (len : ℕ) → rooms_for len board ≡ count_by (has_length len) lists

-- there is room for a run on each topic
pub record HavePlaces (lists : List (List DocId)) (topics : List TopicView) : Type 0 where
  pub as_many : length lists ≡ length topics
  pub on_topics : (on : ℕ) (docs : List DocId) (topic : TopicView) → on < length topics
      → AwaitsRun (slice_index_or lists on docs) (slice_index_or topics on topic)

-- and on the board for its lists
pub record HasRooms (lists : List (List DocId)) (topics : List TopicView) (board : Scores) : Type 0 where
  pub on_topics : HavePlaces lists topics
  pub on_board : IsReservedFor lists board
