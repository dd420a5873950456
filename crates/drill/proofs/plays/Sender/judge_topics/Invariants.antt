-- The topics so far are judged, and the messages are counted.
use Rattle.std.proofs.Common.{◌+◌}
use Rattle.drill.specs.Plays.{After, IsBeforeLastMessage, IsJudged, before_judging, judging_after}
use Rattle.drill.proofs.plays.Sender.judge_topics.Given as goal

abbrev pub invariant-loop-before : goal.invariant-loop-before
invariant-loop-before g l = record {
  judged : After (IsJudged l.self.numbers.now) l.before (before_judging l.fn.book.history) (judging_after l.book.history l.sent);
  counted : IsBeforeLastMessage (l.before + 1) (judging_after l.book.history l.sent);
}
