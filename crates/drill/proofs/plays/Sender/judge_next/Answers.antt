use Rattle.std.proofs.Common.{◌+◌, ◌∙◌, ap, arith, refl, sym}
use Rattle.drill.specs.Figures.{drill_grade}
use Rattle.drill.specs.Messages.{grade_message, lease_message, message_text}
use Rattle.drill.proofs.OwnMessages.SentTexts.{answered-as, sent-as}
use Rattle.drill.proofs.OwnMessages.SentMessages.{grade-sendable, lease-sendable}
use Rattle.drill.proofs.plays.Sender.judge_next.Goals as goal

pub send-requires-clause-message : goal.send-requires-clause-message
send-requires-clause-message g c =
    let number = c.args.sent.now.number + 1 in
    (lease_message c.args.t number, lease-sendable c.args.t number (omega (arith, c.requires.few)), c.in_ok-lease.ensures)

pub send-requires-in-Some-clause-message : goal.send-requires-in-Some-clause-message
send-requires-in-Some-clause-message g c =
    let number = c.args.sent.now.number + 2 in
    let lease = c.args.sent.now.leases + 1 in
    let grade = drill_grade c.args.self.now.numbers.now c.args.t c.in-Some.doc in (
      grade_message lease number grade,
      grade-sendable c.args.self.now.numbers.now c.args.t c.in-Some.doc lease number (omega (arith, c.requires.few_leases)) (omega (arith, c.requires.few)),
      c.in_ok-text-in-Some.ensures ∙ ap (λ grade. message_text (grade_message lease number grade)) c.grade_of-grade.ensures,
    )

pub returns-in_ok-send-in-Some : goal.returns-in_ok-send-in-Some
returns-in_ok-send-in-Some g c =
    let number = c.args.sent.now.number in
    let leases = c.args.sent.now.leases in
    let lease = answered-as c.args.book.now.history c.send.new.book.history _
    (lease_message c.args.t (number + 1)) _ c.in_ok-lease.ensures c.in_ok-doc.ensures in
    record {
      answers = lease.0;
      leased = c.send.new.book.history;
      doc = c.in-Some.doc;
      lease = lease.1;
      doc_is = sym lease.2 ∙ c.in-Some.is;
      grade =
          sent-as c.send.new.book.history c.send-in-Some.new.book.history _
          (grade_message (leases + 1) (number + 2) (drill_grade c.args.self.now.numbers.now c.args.t c.in-Some.doc)) _
          (c.in_ok-text-in-Some.ensures ∙ ap (λ grade. message_text (grade_message (leases + 1) (number + 2) grade)) c.grade_of-grade.ensures)
          c.in_ok-send-in-Some.ensures;
      number_is = refl;
      leases_are = refl;
    }
