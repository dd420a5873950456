-- The documents so far are done.
use Rattle.std.proofs.Common.{take}
use Rattle.depth_pool.specs.Holdings.{pool_docs}
use Rattle.assessment.specs.Fronts.{AreDone}
use Rattle.assessment.proofs.fronts.front_from.Given as goal

abbrev pub invariant-loop-place : goal.invariant-loop-place
invariant-loop-place g l = AreDone l.labelled.need l.labelled.marks.now.marked l.assessor (take l.place (pool_docs l.labelled.pool.now.runs l.run))
