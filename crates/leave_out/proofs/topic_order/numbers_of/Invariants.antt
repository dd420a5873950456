-- The numbers so far and those to come are all.
use Rattle.std.proofs.Common.{◌≡◌, ◌++◌, map}
use Rattle.leave_out.proofs.topic_order.numbers_of.Given as goal

abbrev pub invariant-loop-number : goal.invariant-loop-number
invariant-loop-number l = l.numbers.items ++ l.number-iterator ≡ map (λ one. one.1) l.ids.entries
