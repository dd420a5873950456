-- The board has room for the lists that are left, and its topics stay.
use Rattle.std.proofs.Common.{◌≡◌, ℕ, drop}
use Rattle.std.specs.Prelude.{count_by}
use Rattle.score_index.specs.Scores.{KeepsScores, rooms_for}
use Rattle.assessment.specs.RunLists.{has_length}
use Rattle.assessment.proofs.runs.drop_lists.Given as goal

abbrev pub invariant-loop-list : goal.invariant-loop-list
invariant-loop-list l = record {
  rooms : (len : ℕ) → rooms_for len l.board ≡ count_by (has_length len) (drop l.list-index l.lists);
  scores : KeepsScores l.fn.board l.board;
}
