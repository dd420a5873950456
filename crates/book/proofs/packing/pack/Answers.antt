-- The records that were packed.
use Rattle.std.proofs.Common.{◌≤◌, ◌++◌, ℕ, List, Vec, length, ap, subst, sym, arith}
use Rattle.std.specs.declared.alloc.Global.{Global}
use Rattle.std.proofs.lemmas.List.{length-map}
use Rattle.journal.specs.KeptRecords.{payloads as payloads_of}
use Rattle.record_codec.specs.Payloads.{IsPayload}
use Rattle.rulebook.specs.declared.entry.EntryCore.{EntryCore}
use Rattle.rulebook.specs.Words.{Text}
use Rattle.book.specs.Compaction.Packings.{AreShort, CanPack}
use Rattle.book.proofs.Payloads.PackedEntries.{can_end, leaves_all, leaves_next, next_spells, packed_all, short_none}
use Rattle.book.proofs.packing.pack.Goals as goal

pub loop-place-init : goal.loop-place-init
loop-place-init c = record {
  short = subst AreShort (sym c.new-payloads.ensures.items) short_none;
  leaves = leaves_all (payloads_of c.args.records.now) (payloads_of c.new-payloads.result.items) c.new-part.result.items
      (ap payloads_of c.new-payloads.ensures.items) c.new-part.ensures.items;
}

pub pack_record-requires-clause-spells : goal.pack_record-requires-clause-spells
pack_record-requires-clause-spells c =
    let at = c.loop-place in
    let record_ = c.index-records-place.result in
    subst (λ (bytes : Text). (cores : List EntryCore) × IsPayload bytes cores × ((left : List EntryCore) × CanPack at.part.items (cores ++ left)))
    (sym c.deref.ensures.value)
    (next_spells c.args.records.now at.place record_ c.loop-place-test.true c.index-records-place.is
    (payloads_of at.payloads.items) at.part.items at.invariant.leaves
    c.requires.laws c.requires.story.0 c.requires.story.1)

pub loop-place-preserved : goal.loop-place-preserved
loop-place-preserved c =
    let at = c.loop-place in
    let record_ = c.index-records-place.result in
    record {
      short = c.in_ok-pack_record.ensures.short;
      leaves = leaves_next c.args.records.now at.place record_ c.loop-place-test.true c.index-records-place.is
          (payloads_of at.payloads.items) at.part.items at.invariant.leaves
          (payloads_of c.pack_record.new.payloads.items) c.pack_record.new.part.items
          (λ cores left spells can. c.in_ok-pack_record.ensures.packs cores left
          (subst (λ (bytes : Text). IsPayload bytes cores) (sym c.deref.ensures.value) spells) can);
    }

pub end_part-requires-clause-can : goal.end_part-requires-clause-can
end_part-requires-clause-can c =
    let at = c.loop-place in
    let over : length (payloads_of c.args.records.now) ≤ at.place =
    omega (arith, c.loop-place-test.false, length-map c.args.records.now (λ (p : Vec ℕ Global). p.items)) in
    can_end (payloads_of c.args.records.now) at.place over
    (payloads_of at.payloads.items) at.part.items at.invariant.leaves c.requires.laws c.requires.story.0 c.requires.story.1

pub returns-clause-packed : goal.returns-clause-packed
returns-clause-packed c H story =
    let at = c.loop-place in
    let over : length (payloads_of c.args.records.now) ≤ at.place =
    omega (arith, c.loop-place-test.false, length-map c.args.records.now (λ (p : Vec ℕ Global). p.items)) in
    packed_all (payloads_of c.args.records.now) at.place over (payloads_of at.payloads.items) at.part.items at.invariant.leaves c.requires.laws H story
    (payloads_of c.end_part.new.payloads.items) c.in_ok-end_part.ensures.payloads
