use Rattle.std.proofs.Common.{◌≡◌, ◌<◌, ◌∙◌, List, sym, ap, arith, get_or, length}
use Rattle.decimal_rank.proofs.Lists.{map-map}
use Rattle.score_index.specs.KeptBoards.{scores_without_run, topic_scores}
use Rattle.score_index.specs.Scores.{ScoreList, TopicScores}
use Rattle.score_index.specs.declared.topics.ScoredTopic.{ScoredTopic}
use Rattle.score_index.proofs.KeptTopics.Boards.{places_set}
use Rattle.score_index.proofs.KeptTopics.ListFacts.{all_mapped, none_mapped, one_more_mapped}
use Rattle.score_index.proofs.topics.drop_run.Goals as goal

pub loop-topic-init : goal.loop-topic-init
loop-topic-init c = record {
  mapped = none_mapped {X = ScoredTopic} {Z = TopicScores} topic_scores (λ topic. scores_without_run c.args.run (topic_scores topic)) c.args.topics.now;
  kept = record { empties = λ all. all; places = λ least all. all };
}

pub loop-topic-preserved : goal.loop-topic-preserved
loop-topic-preserved c =
    let topics = c.loop-topic.topics in
    let i = c.loop-topic.topic-index in
    let item : ScoredTopic = get_or topics i c.topic-item.result in
    let new : ScoredTopic = record item { lists = c.drop_lists.new.lists } in
    let within : i < length topics = omega (arith, c.loop-topic-test.true, c.loop-topic.auto.topics) in
    let with_lists : List ScoreList → TopicScores = λ lists. record (topic_scores item) { lists = lists } in
    let are : topic_scores new ≡ scores_without_run c.args.run (topic_scores item) = ap with_lists c.drop_lists.ensures.items in
    record {
      mapped = one_more_mapped {X = ScoredTopic} {Z = TopicScores} topic_scores (λ topic. scores_without_run c.args.run (topic_scores topic))
          c.args.topics.now topics i new c.topic-item.result c.loop-topic-test.true are c.loop-topic.invariant.mapped;
      kept = places_set c.topic-item.result new c.loop-topic.invariant.kept within (λ held. held)
          (omega (arith, c.drop_lists.ensures.len, c.drop_lists.ensures.capacity));
    }

pub returns-clause-seen : goal.returns-clause-seen
returns-clause-seen c =
    all_mapped {X = ScoredTopic} {Z = TopicScores} topic_scores
    (λ topic. scores_without_run c.args.run (topic_scores topic)) c.args.topics.now c.loop-topic.topics c.loop-topic.topic-index
    (omega (arith, c.loop-topic-test.false)) c.loop-topic.invariant.mapped
    ∙ sym (map-map (scores_without_run c.args.run) topic_scores c.args.topics.now)

pub returns-clause-kept : goal.returns-clause-kept
returns-clause-kept c = c.loop-topic.invariant.kept
