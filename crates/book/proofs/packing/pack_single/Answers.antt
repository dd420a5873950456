-- An entry by its spelling, behind the bundle that ended.
use Rattle.std.proofs.Common.{◌∷◌, ◌++◌, [], List, ap, sym, subst, ◌∙◌}
use Rattle.journal.specs.KeptRecords.{payloads as payloads_of}
use Rattle.rulebook.specs.declared.entry.EntryCore.{EntryCore}
use Rattle.rulebook.specs.Spelling.{entry_bytes}
use Rattle.rulebook.specs.Words.{Text}
use Rattle.book.specs.Compaction.Packings.{PacksTo}
use Rattle.book.proofs.Payloads.PackedEntries.{packs_single}
use Rattle.book.proofs.packing.pack_single.Goals as goal

pub put_single-requires-clause-spelled : goal.put_single-requires-clause-spelled
put_single-requires-clause-spelled c = c.requires.can.1.fit.0

pub put_single-requires-clause-fits : goal.put_single-requires-clause-fits
put_single-requires-clause-fits c = c.requires.can.1.fit.1

pub returns-clause-packs : goal.returns-clause-packs
returns-clause-packs c left can =
    let done = payloads_of c.args.payloads.now.items in
    let after = payloads_of c.put_single.new.payloads.items in
    let part = c.args.part.now.items in
    let core = c.args.core.now in
    let grown = c.in_ok-put_single.ensures.payloads ∙ ap (λ (d : List Text). d ++ entry_bytes core ∷ []) c.in_ok-end_part.ensures.payloads in
    subst (λ (next : List EntryCore). PacksTo done part (core ∷ left) after next left) (sym c.in_ok-end_part.ensures.part)
    (packs_single done after part left core c.requires.other grown can)
