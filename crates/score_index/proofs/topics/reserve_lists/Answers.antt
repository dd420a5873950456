use Rattle.std.proofs.Common.{◌≡◌, ◌≢◌, ◌<◌, ◌≤◌, ◌∙◌, ℕ, List, ap, arith, below_more, get_or, get_or-set_other, get_or-set_same, length, map, set}
use Rattle.decimal_rank.proofs.Lists.{map-set_same}
use Rattle.score_index.specs.KeptBoards.{KeepsPlaces, spare, topic_scores}
use Rattle.score_index.specs.Scores.{ScoreList, TopicScores}
use Rattle.score_index.specs.declared.topics.ScoredTopic.{ScoredTopic}
use Rattle.score_index.proofs.KeptTopics.Boards.{places_set}
use Rattle.score_index.proofs.topics.reserve_lists.Goals.{After-reserve}
use Rattle.score_index.proofs.topics.reserve_lists.Goals as goal

abbrev item : After-reserve → ScoredTopic
item c = get_or c.loop-topic.topics c.loop-topic.topic-index c.topic-item.result

-- the topic with its room
abbrev roomy : After-reserve → ScoredTopic
roomy c = record (item c) { lists = c.reserve.new.self }

within : (c : After-reserve) → c.loop-topic.topic-index < length c.loop-topic.topics
within c = omega (arith, c.loop-topic-test.true, c.loop-topic.auto.topics)

seen_are : (c : After-reserve) → map topic_scores (set c.loop-topic.topics c.loop-topic.topic-index (roomy c)) ≡ map topic_scores c.args.topics.now
seen_are c =
    let with_lists : List ScoreList → TopicScores = λ lists. record (topic_scores (item c)) { lists = lists } in
    let are : topic_scores (roomy c) ≡ topic_scores (item c) = ap with_lists c.reserve.ensures.items in
    map-set_same topic_scores c.loop-topic.topics c.loop-topic.topic-index (roomy c) c.topic-item.result (within c) are ∙ c.loop-topic.invariant.seen_are

kept : (c : After-reserve) → KeepsPlaces c.args.topics.now (set c.loop-topic.topics c.loop-topic.topic-index (roomy c))
kept c = places_set c.topic-item.result (roomy c) c.loop-topic.invariant.kept (within c) (λ held. held)
    (omega (arith, c.reserve.ensures.len, c.reserve.ensures.capacity))

pub loop-topic-preserved : goal.loop-topic-preserved
loop-topic-preserved c =
    let all = (goal.at.loop-topic-preserved c).After-reserve in
    let topics = c.loop-topic.topics in
    let i = c.loop-topic.topic-index in
    let Room : ℕ → Type 0 = λ k. (d : ScoredTopic) → c.args.count ≤ spare (get_or (set topics i (roomy all)) k d) in
    let inside : i < length topics = within all in
    let here : c.args.count ≤ spare (roomy all) = omega (arith, c.in_ok-reserve.ensures.ok) in
    record {
      seen_are = seen_are all;
      room = λ k d below.
          below_more Room i
          (λ k h d. let other : k ≢ i = omega (arith, h) in rw get_or-set_other (c.loop-topic.invariant.room k d h))
          (λ d. rw get_or-set_same here)
          k below d;
      kept = kept all;
    }

pub returns-in_err-reserve-clause-seen : goal.returns-in_err-reserve-clause-seen
returns-in_err-reserve-clause-seen c = seen_are (goal.at.returns-in_err-reserve-clause-seen c).After-reserve

pub returns-in_err-reserve-clause-kept : goal.returns-in_err-reserve-clause-kept
returns-in_err-reserve-clause-kept c = kept (goal.at.returns-in_err-reserve-clause-kept c).After-reserve
