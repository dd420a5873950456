-- The fronts stand behind documents that are done.
use Rattle.assessment.specs.Fronts.{HasFronts}
use Rattle.assessment.proofs.fronts.advance.Given as goal

abbrev pub invariant-loop-run : goal.invariant-loop-run
invariant-loop-run g l = HasFronts l.labelled.need l.labelled.marks.now.marked l.own-inside.assessor l.labelled.pool.now.runs l.own-inside.fronts.items
