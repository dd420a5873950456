-- The totals are the sums of the run's kept cells on the topics so far.
use Rattle.std.proofs.Common.{◌≡◌, ◌≤◌, map, take}
use Rattle.measures.specs.Totals.{sums_of}
use Rattle.score_index.specs.KeptBoards.{kept_cells, topic_scores}
use Rattle.score_index.proofs.board.Board.summary.Given as goal

abbrev pub invariant-loop-topic : goal.invariant-loop-topic
invariant-loop-topic l = record {
  sums : l.totals ≡ sums_of (kept_cells l.run (map topic_scores (take l.topic-index l.topic-items)));
  few : l.totals.topics ≤ l.topic-index;
}
