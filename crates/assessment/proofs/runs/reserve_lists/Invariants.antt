-- The board has room for the lists so far, and its topics stay.
use Rattle.std.proofs.Common.{◌≡◌, ℕ, take}
use Rattle.std.specs.Prelude.{count_by}
use Rattle.score_index.specs.Scores.{KeepsScores, rooms_for}
use Rattle.assessment.specs.RunLists.{has_length}
use Rattle.assessment.proofs.runs.reserve_lists.Given as goal

abbrev pub invariant-loop-count : goal.invariant-loop-count
invariant-loop-count l = record {
  rooms : (len : ℕ) → rooms_for len l.board ≡ count_by (has_length len) (take l.count l.lists);
  scores : KeepsScores l.fn.board l.board;
}
