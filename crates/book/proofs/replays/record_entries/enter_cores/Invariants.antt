-- The entries of the cores so far were added, and those that are left have spellings with room in a record.
use Rattle.std.proofs.Common.{◌≡◌, ◌++◌, length}
use Rattle.std.specs.Vec.Iter.{into_iter_items, into_iter_len}
use Rattle.book.specs.Opening.Replays.{AreFit}
use Rattle.book.specs.Stories.{cores_of}
use Rattle.book.proofs.replays.record_entries.enter_cores.Given as goal

abbrev pub invariant-loop-core : goal.invariant-loop-core
invariant-loop-core l = record {
  left : l.yielded ++ into_iter_items l.core-iterator ≡ l.fn.cores.items;
  len : into_iter_len l.core-iterator ≡ length (into_iter_items l.core-iterator);
  fit : AreFit (into_iter_items l.core-iterator);
  added : cores_of l.replay ≡ cores_of l.initial.replay ++ l.yielded;
}
