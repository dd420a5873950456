-- The runs so far were sent, one after another.
use Rattle.drill.specs.Exchanges.{IsSent}
use Rattle.drill.specs.Messages.{run_message}
use Rattle.drill.specs.Plays.{After}
use Rattle.drill.proofs.plays.Sender.submit_runs.Given as goal

abbrev pub invariant-loop-before : goal.invariant-loop-before
invariant-loop-before g l = After (λ r old new. IsSent old (run_message l.self.numbers.now r) new) l.before l.fn.book.history l.book.history
