-- The entries of a record, packed.
use Rattle.std.proofs.Common.{◌≡◌, ◌++◌, List, rules, sym, subst}
use Rattle.journal.specs.KeptRecords.{payloads as payloads_of}
use Rattle.record_codec.specs.Payloads.{IsPayload}
use Rattle.rulebook.specs.declared.entry.EntryCore.{EntryCore}
use Rattle.book.specs.Compaction.Packings.{CanPack, PacksTo}
use Rattle.book.proofs.packing.pack_record.Goals as goal

pub pack_cores-requires-clause-can : goal.pack_cores-requires-clause-can
pack_cores-requires-clause-can c =
    let left = c.requires.spells.2.0 in
    let same = c.requires.laws.one c.args.record_.now c.requires.spells.0 c.in-Ok.cores.items c.requires.spells.1 c.in-Ok.ensures.entries in
    (left, subst (λ (cores : List EntryCore). CanPack c.args.part.now.items (cores ++ left)) same c.requires.spells.2.1)

pub unreachable-requires : goal.unreachable-requires
unreachable-requires c =
    let none : (cores : List EntryCore) → IsPayload c.args.record_.now cores → ⊥ = search rules in
    none c.requires.spells.0 c.requires.spells.1

pub returns-in_ok-pack_cores-in-Ok-clause-packs : goal.returns-in_ok-pack_cores-in-Ok-clause-packs
returns-in_ok-pack_cores-in-Ok-clause-packs c cores left spells can =
    let done = payloads_of c.args.payloads.now.items in
    let after = payloads_of c.pack_cores.new.payloads.items in
    let part = c.args.part.now.items in
    let same : c.in-Ok.cores.items ≡ cores = c.requires.laws.one c.args.record_.now c.in-Ok.cores.items cores c.in-Ok.ensures.entries spells in
    subst (λ (these : List EntryCore). PacksTo done part (these ++ left) after c.pack_cores.new.part.items left) same
    (c.in_ok-pack_cores-in-Ok.ensures.packs left (subst (λ (these : List EntryCore). CanPack part (these ++ left)) (sym same) can))
