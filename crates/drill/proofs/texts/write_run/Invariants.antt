-- What is appended is the run's lists on the topics so far.
use Rattle.std.proofs.Common.{◌≡◌, ◌++◌}
use Rattle.drill.specs.Texts.{list_text, texts_to}
use Rattle.drill.proofs.texts.write_run.Given as goal

abbrev pub invariant-loop-before : goal.invariant-loop-before
invariant-loop-before l = l.out.items ≡ l.fn.out.items ++ texts_to l.before (list_text l.numbers l.r)
