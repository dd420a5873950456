-- The cores that were packed so far.
use Rattle.std.proofs.Common.{◌≡◌, ◌++◌, ◌∷◌, [], List, length, sym, ap, subst, ◌∙◌, arith}
use Rattle.std.specs.Vec.Iter.{into_iter_items}
use Rattle.std.proofs.lemmas.List.{append_assoc, nil_from_length}
use Rattle.journal.specs.KeptRecords.{payloads as payloads_of}
use Rattle.rulebook.specs.declared.entry.EntryCore.{EntryCore}
use Rattle.book.specs.Compaction.Packings.{CanPack, PacksTo}
use Rattle.book.proofs.Payloads.PackedEntries.{packs_none, packs_on}
use Rattle.book.proofs.packing.pack_cores.Goals.{In-Some}
use Rattle.book.proofs.packing.pack_cores.Goals as goal

pub loop-core-init : goal.loop-core-init
loop-core-init c =
    let gives = c.into_iter-core-iterator.ensures.into_iter_gives in
    let items : into_iter_items c.into_iter-core-iterator.result ≡ c.args.cores.items = gives.0 in
    let part = c.args.part.now.items in
    let done = payloads_of c.args.payloads.now.items in
    record {
      all = items;
      len = omega (arith, gives.1, ap length items);
      short = c.requires.short;
      packs = λ left can.
          subst (λ (cores : List EntryCore). PacksTo done part (c.args.cores.items ++ left) done part (cores ++ left))
          (sym items) (packs_none done part (c.args.cores.items ++ left) can);
    }

-- the cores that are left begin with this one
packed_so_far : (c : In-Some) (left : List EntryCore) → CanPack c.args.part.now.items (c.args.cores.items ++ left)
    → PacksTo (payloads_of c.args.payloads.now.items) c.args.part.now.items (c.args.cores.items ++ left)
    (payloads_of c.loop-core.payloads.items) c.loop-core.part.items
    (c.in-Some.core ∷ (into_iter_items c.next.new.self ++ left))
packed_so_far c left can =
    let at = c.loop-core in
    subst (λ (cores : List EntryCore). PacksTo (payloads_of c.args.payloads.now.items) c.args.part.now.items
    (c.args.cores.items ++ left) (payloads_of at.payloads.items) at.part.items (cores ++ left))
    c.in-Some.ensures.steps.0 (at.invariant.packs left can)

pub pack_core-requires-clause-can : goal.pack_core-requires-clause-can
pack_core-requires-clause-can c =
    let here = (goal.at.pack_core-requires-clause-can c).In-Some in
    (into_iter_items c.next.new.self ++ c.requires.can.0, (packed_so_far here c.requires.can.0 c.requires.can.1).can)

pub loop-core-preserved : goal.loop-core-preserved
loop-core-preserved c =
    let at = c.loop-core in
    let core = c.in-Some.core in
    let here = (goal.at.loop-core-preserved c).In-Some in
    let next = into_iter_items c.next.new.self in
    record {
      all = append_assoc at.yielded (core ∷ []) next ∙ ap (λ (cores : List EntryCore). at.yielded ++ cores) (sym c.in-Some.ensures.steps.0) ∙ at.invariant.all;
      len = let was = at.invariant.len in let gone = c.in-Some.ensures.steps.1 in let short = ap length c.in-Some.ensures.steps.0 in omega arith;
      short = c.in_ok-pack_core.ensures.short;
      packs = λ left can.
          let so_far = packed_so_far here left can in
          packs_on (payloads_of c.args.payloads.now.items) c.args.part.now.items (c.args.cores.items ++ left)
          (payloads_of at.payloads.items) at.part.items (core ∷ (next ++ left))
          (payloads_of c.pack_core.new.payloads.items) c.pack_core.new.part.items (next ++ left) so_far
          (c.in_ok-pack_core.ensures.packs (next ++ left) so_far.can);
    }

pub returns-clause-packs : goal.returns-clause-packs
returns-clause-packs c left can =
    let at = c.loop-core in
    let empty : into_iter_items at.core-iterator ≡ [] = nil_from_length _ (sym at.invariant.len ∙ c.in-None.ensures.steps.0) in
    subst (λ (cores : List EntryCore). PacksTo (payloads_of c.args.payloads.now.items) c.args.part.now.items
    (c.args.cores.items ++ left) (payloads_of at.payloads.items) at.part.items (cores ++ left))
    empty (at.invariant.packs left can)

pub returns-clause-short : goal.returns-clause-short
returns-clause-short c = c.loop-core.invariant.short
