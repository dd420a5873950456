-- Some documents are graded, each by an accepted lease, and the messages are counted.
use Rattle.std.proofs.Common.{◌-◌, ℕ, length}
use Rattle.drill.specs.Plays.{After, IsBeforeLastMessage, IsGraded, judging_after}
use Rattle.drill.proofs.plays.Sender.judge_topic.Given as goal

abbrev pub invariant-leases : goal.invariant-leases
invariant-leases g l = record {
  graded : (count : ℕ)
      × After (λ k. IsGraded l.self.numbers.now l.t) count (judging_after l.initial.book.history l.initial.sent) (judging_after l.book.history l.sent);
  counted : IsBeforeLastMessage l.t (judging_after l.book.history l.sent);
}

abbrev pub decreases-leases : goal.decreases-leases
decreases-leases g l = 4000001 - length l.book.history
