-- The board and the queues that a state lends, in the words of the rules.
use Rattle.std.specs.Prelude.{◌≡◌, ◌<◌, ℕ, IsTrue, List, Some, map, slice_get}
use Rattle.std.specs.List.Sorted.{IsPermutation}
use Rattle.depth_pool.specs.declared.runs.RunId.{RunId}
use Rattle.mtf_queue.specs.QueueView.{QueueView}
use Rattle.mtf_queue.specs.declared.rule.Judged.{Judged}
use Rattle.rulebook.specs.Campaign.{History, Run, numbered_runs}
use Rattle.rulebook.specs.Judgements.Grades.{trail}
use Rattle.rulebook.specs.Judgements.JudgingOrder.{comes_before, relevance}
use Rattle.rulebook.specs.Histories.Legal.{IsLegal}
use Rattle.rulebook.specs.Reports.Scores.{cell_on}
use Rattle.rulebook.specs.Words.{Text, contains_text}
use Rattle.measures.specs.declared.cells.Cell.{Cell}
use Rattle.qrels_view.specs.declared.grades.Graded.{Graded}
use Rattle.score_index.specs.Scores.{Scores, topic_scores_at}
use Rattle.score_index.specs.BoardGrades.{StandsFor, cell_from, grades_at, listed_in}
use Rattle.campaign_core.specs.Assessments.DeskLeases.{topic_in}
use Rattle.campaign_core.specs.Views.Lendings.{IsBoardOf, IsQueueOf}
use Rattle.campaign_core.specs.Numbering.Numbers.{doc_in, names_of}
use Rattle.campaign_core.specs.Assessments.RunScores.{run_at}
pub use Rattle.campaign_core.specs.Numbering.Submissions.{run_id_of}
use Rattle.campaign_core.specs.Assessments.Topics.{topic_ids}

-- a document by its number, and whether it is relevant
abbrev pub judged_by_grades : History → Text → Text → Judged
judged_by_grades H topic doc = record { doc = doc_in (names_of H) doc; relevant = relevance H topic doc }

-- The queue has the live runs, of two the one that comes first by the rules earlier; and the trail of the rules.
pub record IsInRulesOrder (H : History) (topic : Text) (queue : QueueView) : Type 0 where
  pub runs_are : IsPermutation (map run_id_of (numbered_runs H)) queue.order
  pub in_order : (i j m n : ℕ) (p q : ℕ × Run) → i < j → slice_get queue.order i ≡ Some (run_id_of p) → slice_get queue.order j ≡ Some (run_id_of q)
      → slice_get (numbered_runs H) m ≡ Some p → slice_get (numbered_runs H) n ≡ Some q → IsTrue (comes_before H topic p q)
  pub trail_is : queue.trail ≡ map (judged_by_grades H topic) (trail H topic)

-- What a state lends as the queue of a topic.
abbrev pub QueuesAreInTheRulesOrder : Type 0
QueuesAreInTheRulesOrder = (H : History) (number : ℕ) (topic : Text) (queue : QueueView) → IsQueueOf H number queue
    → slice_get (topic_ids H) number ≡ Some topic → IsInRulesOrder H topic queue

-- the cell of a run on a topic of a board, by these grades of its topics
abbrev pub cell_on_board : Scores → List (List Graded) → RunId → ℕ → Cell
cell_on_board board grades run topic = cell_from (topic_scores_at board topic).level (grades_at grades topic) (listed_in run (topic_scores_at board topic))

-- The board stands for grades by which the cell of each live run on each topic is that of the rules.
pub record HasRulesCells (H : History) (board : Scores) : Type 0 where
  pub grades : List (List Graded)
  pub stands : StandsFor board grades
  pub cells : (number : RunId) (run : Run) (topic : Text) → run_at H number ≡ Some run → IsTrue (contains_text (topic_ids H) topic)
      → cell_on_board board grades number (topic_in (topic_ids H) topic) ≡ cell_on H run topic

-- What a state lends as the board.
abbrev pub BoardsScoreByTheRules : Type 0
BoardsScoreByTheRules = (H : History) (board : Scores) → IsLegal H → IsBoardOf H board → HasRulesCells H board
