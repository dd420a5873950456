use Rattle.std.proofs.Common.{◌+◌, arith, refl}
use Rattle.drill.specs.Plays.{IsGraded, judging_after}
use Rattle.drill.proofs.OwnMessages.CountedMessages.{graded-counted, refused-counted}
use Rattle.drill.proofs.Counts.{after-more}
use Rattle.drill.proofs.plays.Sender.judge_topic.Goals as goal

pub leases-init : goal.leases-init
leases-init g c = record { graded = (0, refl); counted = c.requires.counted }

pub judge_next-requires-clause-few : goal.judge_next-requires-clause-few
judge_next-requires-clause-few g c =
    let counted = c.leases.invariant.counted in
    omega (arith, counted.messages, counted.entries, c.entries_are_few.ensures c.leases.book.history c.stands.ensures.legal, c.requires.topic)

pub judge_next-requires-clause-few_leases : goal.judge_next-requires-clause-few_leases
judge_next-requires-clause-few_leases g c =
    omega (arith, c.leases.invariant.counted.entries, c.entries_are_few.ensures c.leases.book.history c.stands.ensures.legal)

pub leases-preserved : goal.leases-preserved
leases-preserved g c =
    let numbers = c.args.self.now.numbers.now in
    let old = judging_after c.leases.book.history c.leases.sent in
    let new = judging_after c.judge_next.new.book.history c.judge_next.new.sent in
    let counted = c.leases.invariant.counted in
    let few = c.entries_are_few.ensures c.leases.book.history c.stands.ensures.legal in
    let graded = rw c.if-not-is_graded.false at c.in_ok-is_graded.ensures in
    let so_far = c.leases.invariant.graded in
    record {
      graded = (
        so_far.0
            + 1,
        after-more (λ k. IsGraded numbers c.args.t) so_far.0 (judging_after c.args.book.now.history c.args.sent.now) old new so_far.1 graded,
      );
      counted =
          (graded-counted c.fronts_stay.ensures c.one_reading.ensures numbers c.args.t old new
          (omega (arith, counted.messages, counted.entries, few, c.requires.topic)) (omega (arith, counted.entries, few)) counted
          graded).0;
    }

-- an accepted lease is an entry more
pub leases-smaller : goal.leases-smaller
leases-smaller g c =
    let numbers = c.args.self.now.numbers.now in
    let old = judging_after c.leases.book.history c.leases.sent in
    let new = judging_after c.judge_next.new.book.history c.judge_next.new.sent in
    let counted = c.leases.invariant.counted in
    let few = c.entries_are_few.ensures c.leases.book.history c.stands.ensures.legal in
    let graded = rw c.if-not-is_graded.false at c.in_ok-is_graded.ensures in
    let more =
    (graded-counted c.fronts_stay.ensures c.one_reading.ensures numbers c.args.t old new
    (omega (arith, counted.messages, counted.entries, few, c.requires.topic)) (omega (arith, counted.entries, few)) counted graded).1 in
    omega (arith, few, more)

pub returns-then-not-is_graded-clause-judged : goal.returns-then-not-is_graded-clause-judged
returns-then-not-is_graded-clause-judged g c = record {
  count = c.leases.invariant.graded.0;
  last = judging_after c.leases.book.history c.leases.sent;
  graded = c.leases.invariant.graded.1;
  refused = rw c.if-not-is_graded.true at c.in_ok-is_graded.ensures;
}

pub returns-then-not-is_graded-clause-counted : goal.returns-then-not-is_graded-clause-counted
returns-then-not-is_graded-clause-counted g c =
    let counted = c.leases.invariant.counted in
    let few = c.entries_are_few.ensures c.leases.book.history c.stands.ensures.legal in
    refused-counted c.fronts_stay.ensures c.one_reading.ensures c.args.t (judging_after c.leases.book.history c.leases.sent)
    (judging_after c.judge_next.new.book.history c.judge_next.new.sent)
    (omega (arith, counted.messages, counted.entries, few, c.requires.topic)) counted (rw c.if-not-is_graded.true at c.in_ok-is_graded.ensures)
