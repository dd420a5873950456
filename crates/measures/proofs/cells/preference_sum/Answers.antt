use Rattle.std.proofs.Common.{sym, arith}
use Rattle.measures.proofs.PreferenceSum.{relevant, judged_lower, unjudged, all_preferred}
use Rattle.measures.proofs.cells.preference_sum.Goals as goal
use Rattle.measures.proofs.cells.preference_sum.Goals.{then-is_relevant, else-is_relevant+then-is_non_relevant, else-is_relevant+else-is_non_relevant}

pub loop-grade-preserved : goal.loop-grade-preserved
loop-grade-preserved c =
    elim c.if-is_relevant.branch [
      | then-is_relevant w ↦ rw (w.lower-is, w.sum-is, w.min.ensures)
          (relevant _ _ _ _ _ _ _ c.loop-grade-test.true (sym w.if-is_relevant.ensures) c.loop-grade.invariant)
      | else-is_relevant+then-is_non_relevant w ↦ rw (w.lower-is, w.sum-is)
          (judged_lower _ _ _ _ _ _ _ c.loop-grade-test.true (sym w.if-is_relevant.ensures) (sym w.if-is_non_relevant.ensures) c.loop-grade.invariant)
      | else-is_relevant+else-is_non_relevant w ↦ rw (w.lower-is, w.sum-is)
          (unjudged _ _ _ _ _ _ _ c.loop-grade-test.true (sym w.if-is_relevant.ensures) (sym w.if-is_non_relevant.ensures) c.loop-grade.invariant)
    ]

pub returns-clause-sum : goal.returns-clause-sum
returns-clause-sum c = all_preferred _ _ _ _ _ _ (omega arith) c.loop-grade.invariant
