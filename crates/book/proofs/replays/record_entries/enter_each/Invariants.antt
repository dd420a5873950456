-- The entries went on with those of the payloads so far.
use Rattle.std.proofs.Common.{◌≡◌, ◌++◌, length}
use Rattle.std.specs.Vec.Iter.{into_iter_items, into_iter_len}
use Rattle.journal.specs.KeptRecords.{payloads as payloads_of}
use Rattle.book.specs.Opening.Replays.{GoesOnWithRecords}
use Rattle.book.proofs.replays.record_entries.enter_each.Given as goal

abbrev pub invariant-loop-payload : goal.invariant-loop-payload
invariant-loop-payload l = record {
  left : l.yielded ++ into_iter_items l.payload-iterator ≡ l.fn.payloads.items;
  len : into_iter_len l.payload-iterator ≡ length (into_iter_items l.payload-iterator);
  added : GoesOnWithRecords l.initial.replay (payloads_of l.yielded) l.replay;
}
