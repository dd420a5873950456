-- The entries of the records so far were packed.
use Rattle.journal.specs.KeptRecords.{payloads as payloads_of}
use Rattle.book.specs.Compaction.Packings.{AreShort}
use Rattle.book.proofs.Payloads.PackedEntries.{LeavesToPack}
use Rattle.book.proofs.packing.pack.Given as goal

abbrev pub invariant-loop-place : goal.invariant-loop-place
invariant-loop-place l = record {
  short : AreShort l.payloads.items;
  leaves : LeavesToPack (payloads_of l.records) l.place (payloads_of l.payloads.items) l.part.items;
}
