-- The sum of bpref, and the number of documents judged lower, are those of the ranks so far.
use Rattle.measures.proofs.PreferenceSum.{IsPreferred}
use Rattle.measures.proofs.cells.preference_sum.Given as goal

abbrev pub invariant-loop-grade : goal.invariant-loop-grade
invariant-loop-grade l = IsPreferred l.level l.grades l.cap l.grade-index l.lower l.sum
