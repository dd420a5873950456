-- The docnos so far, in front of those that the bytes left give, are what all the bytes give.
use Rattle.std.proofs.Common.{◌≡◌, ◌-◌}
use Rattle.record_codec.specs.Readings.{docno_read, items_read}
use Rattle.record_codec.proofs.ItemLoops.{with_front}
use Rattle.record_codec.proofs.entries.lists.docnos_of.Given as goal

abbrev pub invariant-loop : goal.invariant-loop
invariant-loop l = with_front l.docs (items_read docno_read (l.count - l.counter) l.left.bytes.now) ≡ items_read docno_read l.count l.fn.left.bytes.now
