-- The first lists of the run are on the board.
use Rattle.std.proofs.Common.{◌≡◌, length}
use Rattle.std.specs.Vec.Iter.{into_iter_items, into_iter_len}
use Rattle.assessment.proofs.RunChanges.WaitingSteps.{IsListedTo}
use Rattle.assessment.proofs.runs.list_run.Given as goal

abbrev pub invariant-loop-list : goal.invariant-loop-list
invariant-loop-list l = record {
  listed : IsListedTo l.fn.run l.fn.lists.items l.fn.topics l.yielded (into_iter_items l.list-iterator) l.topics;
  len : into_iter_len l.list-iterator ≡ length (into_iter_items l.list-iterator);
  number : l.number ≡ length l.yielded;
}
