-- The topics so far have no list of the run, the others are as before, and all keep their room.
use Rattle.score_index.specs.KeptBoards.{KeepsPlaces, scores_without_run, topic_scores}
use Rattle.score_index.specs.Scores.{TopicScores}
use Rattle.score_index.specs.declared.topics.ScoredTopic.{ScoredTopic}
use Rattle.score_index.proofs.KeptTopics.ListFacts.{IsMapped}
use Rattle.score_index.proofs.topics.drop_run.Given as goal

abbrev pub invariant-loop-topic : goal.invariant-loop-topic
invariant-loop-topic l = record {
  mapped : IsMapped {X = ScoredTopic} {Z = TopicScores} topic_scores
      (λ topic. scores_without_run l.run (topic_scores topic)) l.fn.topics l.topics l.topic-index;
  kept : KeepsPlaces l.fn.topics l.topics;
}
