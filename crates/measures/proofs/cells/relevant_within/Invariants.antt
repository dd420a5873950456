-- Each count so far is that of the relevant documents up to its cutoff.
use Rattle.std.proofs.Common.{get_or}
use Rattle.measures.specs.Cells.{cutoffs}
use Rattle.measures.specs.Grades.{relevant_to}
use Rattle.measures.proofs.Places.{ArePlaced}
use Rattle.measures.proofs.cells.relevant_within.Given as goal

abbrev pub invariant-loop-place : goal.invariant-loop-place
invariant-loop-place l = ArePlaced 9 (λ place. relevant_to l.level l.grades (get_or cutoffs place 0)) l.counts l.place
