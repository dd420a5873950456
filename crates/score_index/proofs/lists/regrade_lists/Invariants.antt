-- The lists so far have the new mark, each for at most 20 steps for each level of its length and 20 more.
use Rattle.std.proofs.Common.{◌≤◌, ◌+◌, Some, take}
use Rattle.std.specs.Prelude.{sum_by}
use Rattle.score_index.specs.KeptBoards.{list_regraded}
use Rattle.score_index.specs.KeptSums.{is_lower_standing, is_relevant_standing}
use Rattle.score_index.specs.Scores.{ScoreList, list_steps}
use Rattle.score_index.proofs.KeptTopics.ListFacts.{IsMapped}
use Rattle.score_index.proofs.lists.regrade_lists.Given as goal

abbrev pub invariant-loop-list : goal.invariant-loop-list
invariant-loop-list g l = record {
  mapped : IsMapped (λ (list : ScoreList). list)
      (list_regraded l.doc (is_relevant_standing l.new) (is_lower_standing l.new) l.counts.relevant l.counts.non_relevant) l.fn.lists l.lists l.list-index;
  cost : l.steps ≤ l.fn.steps + sum_by (λ list. list_steps (Some list.docs)) (take l.list-index l.fn.lists);
}
