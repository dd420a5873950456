-- An open journal as a book.
use Rattle.std.proofs.Common.{◌≡◌, ◌∷◌, ◌<◌, List, Vec, ℕ, length, subst, sym, ap, ◌∙◌, arith}
use Rattle.std.specs.declared.alloc.Global.{Global}
use Rattle.journal.specs.KeptRecords.{Settled, payloads as payloads_of}
use Rattle.rulebook.specs.Words.{Text}
use Rattle.book.specs.Opening.Openings.{OpensWith}
use Rattle.book.specs.Opening.OpenJournals.{OpensRecords}
use Rattle.book.specs.Opening.Replays.{Stops}
use Rattle.book.specs.Stories.{IsStory}
use Rattle.book.proofs.OpenJournals.{first_removed, given_up, no_records, is_book_of}
use Rattle.book.proofs.opening.open_records.Given.{Over}
use Rattle.book.proofs.opening.open_records.Goals.{After-replay, Then-len-eq0}
use Rattle.book.proofs.opening.open_records.Goals as goal

none : (g : Over) (c : Then-len-eq0 g) → length c.args.records.items < 1
none g c = omega (arith, c.if-len-eq0.true, c.len.ensures, c.args.records.ok.0)

pub start-requires-clause-settled : goal.start-requires-clause-settled
start-requires-clause-settled g c =
    let here = (goal.at.start-requires-clause-settled g c).Then-len-eq0 in
    subst (λ (all : List Text). Settled (g.D.Disk.seen c.args.journal.disk).images c.args.journal.place all)
    (sym (no_records c.args.records.items (none g here))) c.requires.settled

pub returns-then-len-eq0 : goal.returns-then-len-eq0
returns-then-len-eq0 g c =
    let here = (goal.at.returns-then-len-eq0 g c).Then-len-eq0 in
    subst (λ (all : List Text). OpensRecords g.D.Disk.seen c.args.rules all c.args.opening c.args.journal.disk c.start.result)
    (no_records c.args.records.items (none g here)) c.start.ensures

-- the first record, and the others
all_is : (g : Over) (c : After-replay g) → c.deref.result.now ∷ payloads_of c.remove-first.new.self.items ≡ payloads_of c.args.records.items
all_is g c =
    let records = c.args.records.items in
    let first = c.remove-first.result in
    let some : 0 < length records = omega (arith, c.if-len-eq0.false, c.len.ensures, c.args.records.ok.0) in
    ap (λ (x : Text). x ∷ payloads_of c.remove-first.new.self.items) c.deref.ensures.value
    ∙ ap (λ (rest : List (Vec ℕ Global)). first.items ∷ payloads_of rest) c.remove-first.ensures.items
    ∙ first_removed records first some c.remove-first.ensures.value

pub book_of-requires-clause-settled : goal.book_of-requires-clause-settled
book_of-requires-clause-settled g c =
    let records = payloads_of c.args.records.items in
    let opens : OpensWith c.args.rules (c.deref.result.now ∷ payloads_of c.remove-first.new.self.items) c.in-Ok.state.history = c.in-Ok.ensures in
    let here = (goal.at.book_of-requires-clause-settled g c).After-replay in
    (records, subst (λ (all : List Text). IsStory all c.in-Ok.state.history) (all_is g here) opens.0.0, c.requires.settled)

pub book_of-requires-clause-within : goal.book_of-requires-clause-within
book_of-requires-clause-within g c = omega (arith, c.requires.small)

pub returns-in-Ok : goal.returns-in-Ok
returns-in-Ok g c =
    let D = g.D.Disk in
    let records = payloads_of c.args.records.items in
    let opens : OpensWith c.args.rules (c.deref.result.now ∷ payloads_of c.remove-first.new.self.items) c.in-Ok.state.history = c.in-Ok.ensures in
    let here = (goal.at.returns-in-Ok g c).After-replay in
    is_book_of D.seen g.met.D.Disk.only_now c.args.rules records c.args.opening c.args.journal.disk
    (c.stands.ensures.alone records c.requires.settled) c.book_of.result c.in-Ok.state.history c.book_of.ensures.view c.book_of.ensures.sound
    (subst (λ (all : List Text). OpensWith c.args.rules all c.in-Ok.state.history) (all_is g here) opens)

pub returns : goal.returns
returns g c =
    let D = g.D.Disk in
    let records = payloads_of c.args.records.items in
    let here = (goal.at.returns g c).After-replay in
    let stops : Stops c.args.rules records c.in-Err.fault =
    subst (λ (all : List Text). Stops c.args.rules all c.in-Err.fault) (all_is g here) c.in-Err.ensures in
    rw c.close.ensures (given_up D.seen g.met.D.Disk.only_now c.args.rules records c.args.opening c.args.journal.disk
    (c.stands.ensures.alone records c.requires.settled) c.in-Err.fault stops)
