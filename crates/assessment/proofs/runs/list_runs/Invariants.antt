-- The first runs' lists are on the board, and the others may come.
use Rattle.std.proofs.Common.{◌≡◌, length, map}
use Rattle.std.specs.Vec.Iter.{into_iter_items, into_iter_len}
use Rattle.assessment.specs.WaitingRuns.{lists_of}
use Rattle.assessment.proofs.RunChanges.WaitingSteps.{AreListedTo}
use Rattle.assessment.proofs.runs.list_runs.Given as goal

abbrev pub invariant-loop-one : goal.invariant-loop-one
invariant-loop-one l = record {
  listed : AreListedTo (map lists_of l.fn.runs.items) l.fn.topics (map lists_of l.yielded) (map lists_of (into_iter_items l.one-iterator)) l.topics;
  len : into_iter_len l.one-iterator ≡ length (into_iter_items l.one-iterator);
}
