-- The sum of average precision, and the number of relevant documents, are those of the ranks so far.
use Rattle.measures.proofs.PrecisionSum.{IsSummed}
use Rattle.measures.proofs.cells.precision_sum.Given as goal

abbrev pub invariant-loop-place : goal.invariant-loop-place
invariant-loop-place l = IsSummed l.level l.grades l.place l.relevant l.sum
