-- The next bundle begins with an entry.
use Rattle.std.proofs.Common.{◌≡◌, ◌∷◌, ◌++◌, [], List, ap, sym, subst, ◌∙◌}
use Rattle.journal.specs.KeptRecords.{payloads as payloads_of}
use Rattle.rulebook.specs.declared.entry.EntryCore.{EntryCore}
use Rattle.book.specs.Compaction.Packings.{PacksTo}
use Rattle.book.proofs.Payloads.PackedEntries.{packs_full}
use Rattle.book.proofs.packing.pack_first.Goals as goal

pub returns-clause-packs : goal.returns-clause-packs
returns-clause-packs c left can =
    let done = payloads_of c.args.payloads.now.items in
    let after = payloads_of c.end_part.new.payloads.items in
    let part = c.args.part.now.items in
    let core = c.args.core in
    let begun : c.push.new.self.items ≡ core ∷ [] = c.in_ok-push.ensures.items ∙ ap (λ (p : List EntryCore). p ++ core ∷ []) c.in_ok-end_part.ensures.part in
    subst (λ (next : List EntryCore). PacksTo done part (core ∷ left) after next left) (sym begun)
    (packs_full done after part left core c.requires.brief c.requires.full c.in_ok-end_part.ensures.payloads can)
