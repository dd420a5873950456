use Rattle.std.proofs.Common.{sym, arith}
use Rattle.measures.proofs.PrecisionSum.{passed_over, added, all_summed}
use Rattle.measures.proofs.cells.precision_sum.Goals as goal
use Rattle.measures.proofs.cells.precision_sum.Goals.{then-is_relevant, else-is_relevant}

pub loop-place-preserved : goal.loop-place-preserved
loop-place-preserved c =
    elim c.if-is_relevant.branch [
      | then-is_relevant w ↦ rw (w.relevant-is, w.sum-is, w.weight.ensures.value)
          (added _ _ _ _ _ _ c.loop-place-test.true (sym w.if-is_relevant.ensures) c.loop-place.invariant)
      | else-is_relevant w ↦ rw (w.relevant-is, w.sum-is) (passed_over _ _ _ _ _ _ c.loop-place-test.true (sym w.if-is_relevant.ensures) c.loop-place.invariant)
    ]

pub returns-clause-sum : goal.returns-clause-sum
returns-clause-sum c = all_summed _ _ _ _ _ (omega arith) c.loop-place.invariant
