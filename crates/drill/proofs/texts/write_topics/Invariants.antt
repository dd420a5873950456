-- What is appended is the lines of the topics so far.
use Rattle.std.proofs.Common.{◌≡◌, ◌++◌}
use Rattle.drill.specs.Texts.{topic_text, texts_to}
use Rattle.drill.proofs.texts.write_topics.Given as goal

abbrev pub invariant-loop-before : goal.invariant-loop-before
invariant-loop-before l = l.out.items ≡ l.fn.out.items ++ texts_to l.before (topic_text)
