-- One entry, packed.
use Rattle.std.proofs.Common.{◌≡◌, ◌≢◌, ◌∷◌, List, length, true, sym, subst, ◌∙◌, arith}
use Rattle.journal.specs.KeptRecords.{payloads as payloads_of}
use Rattle.record_codec.specs.Bundles.{is_brief}
use Rattle.rulebook.specs.declared.entry.EntryCore.{EntryCore}
use Rattle.book.specs.Compaction.Packings.{PacksTo}
use Rattle.book.proofs.Payloads.PackedEntries.{packs_more}
use Rattle.book.proofs.packing.pack_core.Goals as goal

pub returns-clause-packs : goal.returns-clause-packs
returns-clause-packs c left can =
    let done = payloads_of c.args.payloads.now.items in
    let part = c.args.part.now.items in
    let core = c.args.core in
    let brief : is_brief core.command ≡ true = sym c.is_brief.ensures ∙ c.if-not-is_brief.false in
    let other : length part ≢ 4096 = λ is. c.if-len-eq-MOST_BUNDLED.false (omega (arith, is, c.len.ensures)) in
    subst (λ (next : List EntryCore). PacksTo done part (core ∷ left) done next left)
    (sym c.in_ok-push.ensures.items) (packs_more done part left core brief other can)
