use Rattle.std.proofs.Common.{◌+◌, arith, refl, subst}
use Rattle.drill.specs.Exchanges.{IsSent}
use Rattle.drill.specs.Messages.{run_message}
use Rattle.drill.specs.Plays.{After}
use Rattle.drill.proofs.Counts.{after-more}
use Rattle.drill.proofs.Ranges.{few-runs}
use Rattle.drill.proofs.OwnMessages.SentTexts.{sent-as}
use Rattle.drill.proofs.OwnMessages.SentMessages.{run-sendable}
use Rattle.drill.proofs.plays.Sender.submit_runs.Goals as goal

pub loop-before-init : goal.loop-before-init
loop-before-init g c = refl

pub send-requires-clause-message : goal.send-requires-clause-message
send-requires-clause-message g c =
    let numbers = c.args.self.now.numbers.now in
    let r = c.loop-before.before + 1 in (
      run_message numbers r,
      run-sendable numbers c.requires.numbers r (omega (arith, few-runs numbers c.requires.numbers, c.loop-before-test.true)),
      c.in_ok-run_message.ensures,
    )

pub loop-before-preserved : goal.loop-before-preserved
loop-before-preserved g c =
    after-more (λ r old new. IsSent old (run_message c.args.self.now.numbers.now r) new) c.loop-before.before
    c.args.book.now.history c.loop-before.book.history c.send.new.book.history c.loop-before.invariant
    (sent-as c.loop-before.book.history c.send.new.book.history _
    (run_message c.args.self.now.numbers.now (c.loop-before.before + 1)) _ c.in_ok-run_message.ensures c.in_ok-send.ensures)

pub returns : goal.returns
returns g c =
    subst (λ n. After (λ r old new. IsSent old (run_message c.args.self.now.numbers.now r) new) n c.args.book.now.history c.loop-before.book.history)
    (omega (arith, c.loop-before-test.false, c.loop-before.auto.before-end)) c.loop-before.invariant
