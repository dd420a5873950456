-- The topics so far, each with the cell of the empty list.
use Rattle.std.proofs.Common.{◌≡◌, map, take}
use Rattle.std.specs.Prelude.{All}
use Rattle.score_index.specs.KeptBoards.{HasEmptyCell, topic_scores}
use Rattle.score_index.specs.Scores.{new_topic_scores}
use Rattle.score_index.proofs.topics.new_topics.Given as goal

abbrev pub invariant-loop-level : goal.invariant-loop-level
invariant-loop-level l = record {
  empties : All HasEmptyCell l.topics.items;
  made : map topic_scores l.topics.items ≡ map new_topic_scores (take l.level-index l.levels);
}
