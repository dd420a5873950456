-- What is known of all topics and of the runs' lists on them, and how it changes.
use Rattle.std.specs.Prelude.{◌≡◌, ◌<◌, ◌-◌, ◌^◌, ◌==◌, ◌&&◌, ℕ, zero, suc, false, List, [], ◌∷◌, All, IsTrue, None, if◌then◌else◌, length, map, slice_get, slice_index_or}
use Rattle.std.specs.Option.{IsSomeAnd}
use Rattle.decimal_rank.specs.declared.naming.DocId.{DocId}
use Rattle.depth_pool.specs.declared.runs.RunId.{RunId}
use Rattle.depth_pool.specs.Holdings.{has_run}
use Rattle.score_index.specs.Scores.{Scores, board_levels, rooms_for, run_docs_at}
use Rattle.score_index.specs.BoardGrades.{StandsFor}
use Rattle.assessment.specs.RunLists.{RankedLists, each_with_list, has_length, rankings_without, unless_empty, with_lists}
use Rattle.assessment.specs.TopicFacts.{AwaitsRun, TopicFacts, TopicView, facts_of, new_topic, topic_with_label, topic_with_list, view_grades, with_ruling, without_list}
use Rattle.assessment.specs.declared.topic.TopicRules.{TopicRules}
use Rattle.assessment.specs.declared.change.Label.{Label}
use Rattle.assessment.specs.declared.change.Judgement.{Judgement}
use Rattle.assessment.specs.declared.change.Judgement.TheVariants as mark
use Rattle.assessment.specs.declared.change.Ruling.{Ruling}

-- the topics and the board as contracts see them
pub record TopicsView : Type 0 where
  pub topics : List TopicView
  pub board : Scores

-- the topics by number, the ranked lists of the runs, and the levels of the board's topics
pub record TopicsFacts : Type 0 where
  pub topics : List TopicFacts
  pub lists : RankedLists
  pub levels : List ℕ

-- what topics and a board tell
abbrev pub facts_by : List TopicView → Scores → TopicsFacts
facts_by topics board = record { topics = map facts_of topics; lists = run_docs_at board; levels = board_levels board }

abbrev pub topics_facts : TopicsView → TopicsFacts
topics_facts all = facts_by all.topics all.board

-- the element at a place changed
abbrev pub at_place : {X : Type 0} → ℕ → (X → X) → List X → List X
at_place place change [] = []
at_place zero change (x ∷ xs) = change x ∷ xs
at_place (suc place) change (x ∷ xs) = x ∷ at_place place change xs

-- with one more run
abbrev pub after_run : RunId → List (List DocId) → TopicsFacts → TopicsFacts
after_run run lists all = record all { topics = each_with_list run lists all.topics; lists = with_lists run lists all.lists }

-- with one more run, whose lists are those that there were
abbrev pub after_entry : RunId → List (List DocId) → TopicsFacts → TopicsFacts
after_entry run lists all = record all { topics = each_with_list run lists all.topics }

-- with the lists of a run that is there
abbrev pub after_lists : RunId → List (List DocId) → TopicsFacts → TopicsFacts
after_lists run lists all = record all { lists = with_lists run lists all.lists }

-- with its list on one topic
abbrev pub after_one_list : ℕ → RunId → List DocId → TopicsFacts → TopicsFacts
after_one_list number run docs all = record all { lists = λ other on. if (run.0 == other.0) && (number == on) then unless_empty docs else all.lists other on }

-- without a run that is withdrawn
abbrev pub after_withdrawal : RunId → TopicsFacts → TopicsFacts
after_withdrawal run all = record all { topics = map (without_list run) all.topics; lists = rankings_without run all.lists }

-- after an assessor gives a document of a topic a grade
abbrev pub after_label : Label → TopicsFacts → TopicsFacts
after_label label all = record all { topics = at_place label.topic (topic_with_label label.doc label.assessor label.grade) all.topics }

-- after a ruling on a document of a topic
abbrev pub after_ruling : Ruling → TopicsFacts → TopicsFacts
after_ruling ruling all = record all { topics = at_place ruling.topic (with_ruling ruling.doc ruling.grade) all.topics }

-- the topic of a mark
abbrev pub judgement_topic : Judgement → ℕ
judgement_topic (mark.Label label) = label.topic
judgement_topic (mark.Ruling ruling) = ruling.topic

-- after a document of a topic gets a mark
abbrev pub after_judgement : Judgement → TopicsFacts → TopicsFacts
after_judgement (mark.Label label) all = after_label label all
after_judgement (mark.Ruling ruling) all = after_ruling ruling all

-- with a run's list on one topic
abbrev pub after_list : ℕ → RunId → List DocId → TopicsFacts → TopicsFacts
after_list number run docs all =
    record all {
      topics = at_place number (topic_with_list run docs) all.topics;
      lists = λ other on. if (run.0 == other.0)
          && (number == on) then unless_empty docs else all.lists other on;
    }

-- a run that is on no topic
abbrev pub IsOnNone : RunId → TopicsFacts → Type 0
IsOnNone run all = All (λ topic. has_run run topic.pool ≡ false) all.topics

-- a run that is on no topic, and has no list
pub record IsNewRun (run : RunId) (all : TopicsFacts) : Type 0 where
  pub on_topics : IsOnNone run all
  pub on_board : (on : ℕ) → all.lists run on ≡ None

-- a run that isn't on this topic, and has no list there
pub record IsNewOn (number : ℕ) (run : RunId) (all : TopicsFacts) : Type 0 where
  pub on_topic : IsSomeAnd (slice_get all.topics number) (λ topic. has_run run topic.pool ≡ false)
  pub on_board : all.lists run number ≡ None

-- a run that is on each topic
abbrev pub IsEntered : RunId → TopicsFacts → Type 0
IsEntered run all = All (λ topic. IsTrue (has_run run topic.pool)) all.topics

-- the topics before any run
abbrev pub new_topics : List TopicRules → TopicsFacts
new_topics rules = record { topics = map new_topic rules; lists = λ run on. None; levels = map (λ one. one.level) rules }

-- there are few topics, and the board stands for their grades
pub record IsStanding (topics : List TopicView) (board : Scores) : Type 0 where
  pub few : length topics < 2 ^ 16
  pub stands : StandsFor board (map view_grades topics)

-- the topics and the board tell this now, and the board has the room that it had
pub record Becomes (all : TopicsFacts) (old new : TopicsView) : Type 0 where
  pub facts : topics_facts new ≡ all
  pub rooms : new.board.rooms ≡ old.board.rooms

-- they tell what they told
abbrev pub IsUnchanged : TopicsView → TopicsView → Type 0
IsUnchanged old new = Becomes (topics_facts old) old new

-- the topics and the board tell this, and the board has no room
pub record AreAtRest (all : TopicsFacts) (new : TopicsView) : Type 0 where
  pub facts : topics_facts new ≡ all
  pub none : new.board.rooms ≡ []

-- there is room for a run on a topic, and on the board for its list there
pub record AwaitsList (number : ℕ) (docs : List DocId) (all : TopicsView) : Type 0 where
  pub on_topic : IsSomeAnd (slice_get all.topics number) (AwaitsRun docs)
  pub on_board : (len : ℕ) → IsTrue (has_length len docs) → 0 < rooms_for len all.board

-- the room for a run's list on a topic is used up, and that on the other topics is as it was
pub record UsesRoom (number : ℕ) (docs : List DocId) (old new : TopicsView) : Type 0 where
  pub others : (on : ℕ) (topic : TopicView) → ¬ (on ≡ number) → slice_index_or new.topics on topic ≡ slice_index_or old.topics on topic
  pub on_board : (len : ℕ) → rooms_for len new.board ≡ rooms_for len old.board - (if has_length len docs then 1 else 0)
