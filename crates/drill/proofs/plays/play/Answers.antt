use Rattle.std.proofs.Common.{subst}
use Rattle.rulebook.specs.Campaign.{History}
use Rattle.drill.specs.Exchanges.{IsSent}
use Rattle.drill.specs.Messages.{open_message, publish_message, topics_message}
use Rattle.drill.proofs.OwnMessages.CountedMessages.{opened-unnumbered}
use Rattle.drill.proofs.OwnMessages.SentTexts.{sent-as}
use Rattle.drill.proofs.OwnMessages.SentMessages.{open-sendable, publish-sendable, topics-sendable}
use Rattle.drill.proofs.plays.play.Goals as goal

pub send-requires-clause-message : goal.send-requires-clause-message
send-requires-clause-message g c = (topics_message c.args.numbers.now, topics-sendable c.args.numbers.now c.requires.numbers, c.in_ok-topics_message.ensures)

pub send-requires-2-clause-message : goal.send-requires-2-clause-message
send-requires-2-clause-message g c = (open_message, open-sendable, c.in_ok-open_message.ensures)

pub send-requires-3-clause-message : goal.send-requires-3-clause-message
send-requires-3-clause-message g c = (publish_message, publish-sendable, c.in_ok-publish_message.ensures)

pub judge_topics-requires-clause-unused : goal.judge_topics-requires-clause-unused
judge_topics-requires-clause-unused g c =
    opened-unnumbered c.fronts_stay.ensures c.one_reading.ensures c.args.numbers.now c.requires.numbers
    c.send.new.book.history c.submit_runs.new.book.history c.send-2.new.book.history
    (subst (λ (H : History). IsSent H (topics_message c.args.numbers.now) c.send.new.book.history) c.requires.founded
    (sent-as c.args.book.now.history c.send.new.book.history _ (topics_message c.args.numbers.now) _ c.in_ok-topics_message.ensures c.in_ok-send.ensures))
    c.in_ok-submit_runs.ensures
    (sent-as c.submit_runs.new.book.history c.send-2.new.book.history _ open_message _ c.in_ok-open_message.ensures c.in_ok-send-2.ensures)

pub returns : goal.returns
returns g c = record {
  with_topics = c.send.new.book.history;
  with_runs = c.submit_runs.new.book.history;
  opened = c.send-2.new.book.history;
  judged = c.judge_topics.new.book.history;
  topics =
      subst (λ (H : History). IsSent H (topics_message c.args.numbers.now) c.send.new.book.history) c.requires.founded
      (sent-as c.args.book.now.history c.send.new.book.history _ (topics_message c.args.numbers.now) _ c.in_ok-topics_message.ensures c.in_ok-send.ensures);
  runs = c.in_ok-submit_runs.ensures;
  open_ = sent-as c.submit_runs.new.book.history c.send-2.new.book.history _ open_message _ c.in_ok-open_message.ensures c.in_ok-send-2.ensures;
  leases = c.in_ok-judge_topics.ensures;
  publish = sent-as c.judge_topics.new.book.history c.send-3.new.book.history _ publish_message _ c.in_ok-publish_message.ensures c.in_ok-send-3.ensures;
}
