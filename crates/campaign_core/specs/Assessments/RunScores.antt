-- What the runs' ranked lists and scores that are kept have to do with the history.
use Rattle.std.specs.Prelude.{◌≡◌, ◌<◌, ℕ, List, Option, None, Some, if◌then◌else◌, length, map, slice_get}
use Rattle.std.proofs.Common.{get_or}
use Rattle.std.specs.Option.{option_and_then, option_map_or}
use Rattle.decimal_rank.specs.declared.naming.DocId.{DocId}
use Rattle.depth_pool.specs.declared.runs.RunId.{RunId}
use Rattle.qrels_view.specs.declared.grades.Graded.{Graded}
use Rattle.assessment.specs.RunLists.{RankedLists, unless_empty}
use Rattle.assessment.specs.TopicFacts.{TopicFacts}
use Rattle.rulebook.specs.Words.{Text}
use Rattle.rulebook.specs.Campaign.{History, Run, docs_on, is_withdrawn, level, runs}
use Rattle.score_index.specs.Scores.{Scores, board_levels, run_docs_at}
use Rattle.score_index.specs.BoardGrades.{StandsFor}
use Rattle.campaign_core.specs.Numbering.Numbers.{docs_in}
use Rattle.campaign_core.specs.Assessments.Topics.{topic_ids}

-- the grades of a topic's documents, by the first ones
abbrev pub fact_grades : TopicFacts → List Graded
fact_grades topic = topic.graded

-- a run, unless it is withdrawn
abbrev pub unless_withdrawn : History → Run → Option Run
unless_withdrawn H run = if is_withdrawn H run.name then None else Some run

-- the live run of a number of submission
abbrev pub run_at : History → RunId → Option Run
run_at H run = option_and_then (unless_withdrawn H) (slice_get (runs H) run.0)

-- the documents of a run's ranked list on a topic, by number
abbrev pub list_on : List Text → Text → Run → List DocId
list_on names topic run = docs_in names (docs_on run.lists topic)

-- a run's ranked list on a topic: none where it has no documents there
abbrev pub ranked_on : List Text → Text → Run → Option (List DocId)
ranked_on names topic run = unless_empty (list_on names topic run)

-- the ranked list of a run, if there is one, on the topic of a number, where these are the names and the ids of the topics
abbrev pub list_in : List Text → List Text → Option Run → ℕ → Option (List DocId)
list_in names ids run on = option_map_or (λ id. option_map_or (ranked_on names id) run None) (slice_get ids on) None

-- There is the ranked list of each live run on each topic, and no other.
abbrev pub AreListed : History → List Text → RankedLists → Type 0
AreListed H names lists = (run : RunId) (topic : ℕ) (d : Text) → topic < length (topic_ids H)
    → lists run topic ≡ option_map_or (ranked_on names (get_or (topic_ids H) topic d)) (run_at H run) None

-- The board has the levels of the topics, stands for the grades of each topic, and has the ranked list of each live run on each topic, and no other.
pub record IsScored (H : History) (names : List Text) (grades : List (List Graded)) (board : Scores) : Type 0 where
  pub levels_are : board_levels board ≡ map (level H) (topic_ids H)
  pub stands : StandsFor board grades
  pub lists_are : AreListed H names (run_docs_at board)
