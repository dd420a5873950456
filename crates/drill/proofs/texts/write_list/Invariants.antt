-- What is appended is the lines of the documents so far.
use Rattle.std.proofs.Common.{◌≡◌, ◌++◌}
use Rattle.drill.specs.Texts.{line, texts_to}
use Rattle.drill.proofs.texts.write_list.Given as goal

abbrev pub invariant-loop-before : goal.invariant-loop-before
invariant-loop-before l = l.out.items ≡ l.fn.out.items ++ texts_to l.before (line l.numbers l.r l.t)
