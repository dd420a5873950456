-- The topics so far have room for the lists, and all are seen as before.
use Rattle.std.proofs.Common.{◌≡◌, ◌<◌, ◌≤◌, ℕ, get_or, map}
use Rattle.score_index.specs.KeptBoards.{KeepsPlaces, spare, topic_scores}
use Rattle.score_index.specs.declared.topics.ScoredTopic.{ScoredTopic}
use Rattle.score_index.proofs.topics.reserve_lists.Given as goal

abbrev pub invariant-loop-topic : goal.invariant-loop-topic
invariant-loop-topic l = record {
  seen_are : map topic_scores l.topics ≡ map topic_scores l.fn.topics;
  room : (k : ℕ) (d : ScoredTopic) → k < l.topic-index → l.count ≤ spare (get_or l.topics k d);
  kept : KeepsPlaces l.fn.topics l.topics;
}
