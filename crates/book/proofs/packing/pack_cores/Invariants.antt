-- The cores so far were packed.
use Rattle.std.proofs.Common.{◌≡◌, ◌++◌, List, length}
use Rattle.std.specs.Vec.Iter.{into_iter_items, into_iter_len}
use Rattle.journal.specs.KeptRecords.{payloads as payloads_of}
use Rattle.rulebook.specs.declared.entry.EntryCore.{EntryCore}
use Rattle.book.specs.Compaction.Packings.{AreShort, CanPack, PacksTo}
use Rattle.book.proofs.packing.pack_cores.Given as goal

abbrev pub invariant-loop-core : goal.invariant-loop-core
invariant-loop-core l = record {
  all : l.yielded ++ into_iter_items l.core-iterator ≡ l.fn.cores.items;
  len : into_iter_len l.core-iterator ≡ length (into_iter_items l.core-iterator);
  short : AreShort l.payloads.items;
  packs : (left : List EntryCore) → CanPack l.initial.part.items (l.fn.cores.items ++ left)
      → PacksTo (payloads_of l.initial.payloads.items) l.initial.part.items (l.fn.cores.items ++ left)
      (payloads_of l.payloads.items) l.part.items (into_iter_items l.core-iterator ++ left);
}
