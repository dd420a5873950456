-- The bundle that ended.
use Rattle.std.proofs.Common.{◌≡◌, ◌≤◌, ◌++◌, [], List, length, true, sym, ap, subst, ◌∙◌, arith}
use Rattle.std.proofs.lemmas.List.{append-nil, nil_from_length}
use Rattle.journal.specs.KeptRecords.{payloads as payloads_of}
use Rattle.record_codec.specs.Bundles.{bundle_bytes, have_bundle}
use Rattle.rulebook.specs.declared.entry.EntryCore.{EntryCore}
use Rattle.rulebook.specs.Words.{Text}
use Rattle.book.specs.Compaction.Compactings.{bundle_of_part}
use Rattle.book.proofs.Payloads.PackedEntries.{ended_full, part_bundled, payloads_push, short_push}
use Rattle.book.proofs.packing.end_part.Goals.{After-deref, Then-len-eq0}
use Rattle.book.proofs.packing.end_part.Goals as goal

empty : (c : Then-len-eq0) → c.args.part.now.items ≡ []
empty c = nil_from_length c.args.part.now.items (omega (arith, c.if-len-eq0.true, c.len.ensures))

pub returns-then-len-eq0-clause-payloads : goal.returns-then-len-eq0-clause-payloads
returns-then-len-eq0-clause-payloads c =
    let none = empty (goal.at.returns-then-len-eq0-clause-payloads c).Then-len-eq0 in
    sym (append-nil (payloads_of c.args.payloads.now.items))
    ∙ ap (λ (part : List EntryCore). payloads_of c.args.payloads.now.items ++ bundle_of_part part) (sym none)

pub returns-then-len-eq0-clause-part : goal.returns-then-len-eq0-clause-part
returns-then-len-eq0-clause-part c = empty (goal.at.returns-then-len-eq0-clause-part c).Then-len-eq0

some : (c : After-deref) → 1 ≤ length c.args.part.now.items
some c = omega (arith, c.if-len-eq0.false, c.len.ensures)

bundled : (c : After-deref) → have_bundle c.deref.result.now ≡ true
bundled c = subst (λ (part : List EntryCore). have_bundle part ≡ true) (sym c.deref.ensures.value)
    (part_bundled c.args.part.now.items c.requires.can.0 c.requires.can.1 (some c))

pub write_bundle-requires : goal.write_bundle-requires
write_bundle-requires c = bundled (goal.at.write_bundle-requires c).After-deref

pub returns-clause-payloads : goal.returns-clause-payloads
returns-clause-payloads c =
    let part = c.args.part.now.items in
    let bytes : c.write_bundle.new.out.items ≡ bundle_bytes part = c.in_ok-write_bundle.ensures
    ∙ ap (λ (start : Text). start ++ bundle_bytes c.deref.result.now) c.new-bundle.ensures.items ∙ ap bundle_bytes c.deref.ensures.value in
    payloads_push c.args.payloads.now.items c.push.new.self.items c.write_bundle.new.out (bundle_bytes part) c.in_ok-push.ensures.items bytes
    ∙ ap (λ (last : List Text). payloads_of c.args.payloads.now.items ++ last) (sym (ended_full part (some (goal.at.returns-clause-payloads c).After-deref)))

pub returns-clause-short : goal.returns-clause-short
returns-clause-short c =
    let here = (goal.at.returns-clause-short c).After-deref in
    let bytes : c.write_bundle.new.out.items ≡ bundle_bytes c.deref.result.now =
    c.in_ok-write_bundle.ensures ∙ ap (λ (start : Text). start ++ bundle_bytes c.deref.result.now) c.new-bundle.ensures.items in
    short_push c.args.payloads.now.items c.push.new.self.items c.write_bundle.new.out c.in_ok-push.ensures.items c.requires.short
    (omega (arith, ap length bytes, c.requires.laws.bundles c.deref.result.now (bundled here)))
