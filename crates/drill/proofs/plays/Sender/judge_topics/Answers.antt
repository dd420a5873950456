use Rattle.std.proofs.Common.{arith, refl, subst}
use Rattle.drill.specs.Plays.{After, IsJudged, before_judging, judging_after}
use Rattle.drill.proofs.OwnMessages.CountedMessages.{uncounted}
use Rattle.drill.proofs.Counts.{after-more}
use Rattle.drill.proofs.Ranges.{few-topics}
use Rattle.drill.proofs.plays.Sender.judge_topics.Goals as goal

pub loop-before-init : goal.loop-before-init
loop-before-init g c = record { judged = refl; counted = uncounted c.args.book.now.history c.requires.unused }

pub judge_topic-requires-clause-topic : goal.judge_topic-requires-clause-topic
judge_topic-requires-clause-topic g c = omega (arith, few-topics c.args.self.now.numbers.now c.requires.numbers, c.loop-before-test.true)

pub loop-before-preserved : goal.loop-before-preserved
loop-before-preserved g c = record {
  judged =
      after-more (IsJudged c.args.self.now.numbers.now) c.loop-before.before (before_judging c.args.book.now.history)
      (judging_after c.loop-before.book.history c.loop-before.sent) (judging_after c.judge_topic.new.book.history c.judge_topic.new.sent)
      c.loop-before.invariant.judged c.in_ok-judge_topic.ensures.judged;
  counted = c.in_ok-judge_topic.ensures.counted;
}

pub returns : goal.returns
returns g c = (
  judging_after c.loop-before.book.history c.loop-before.sent,
  subst (λ n. After (IsJudged c.args.self.now.numbers.now) n (before_judging c.args.book.now.history)
      (judging_after c.loop-before.book.history c.loop-before.sent))
      (omega (arith, c.loop-before-test.false, c.loop-before.auto.before-end)) c.loop-before.invariant.judged,
  refl,
)
