-- The founding entry is added to a journal without records.
use Rattle.std.proofs.Common.{◌≡◌, [], ◌∷◌, refl, arith}
use Rattle.disk_model.specs.Disks.{EachMoment}
use Rattle.journal.specs.KeptRecords.{HoldsRecordsOfOne, Keeps}
use Rattle.journal.specs.Moments.{weaker}
use Rattle.rulebook.specs.declared.rules.Rules.{Rules}
use Rattle.rulebook.specs.Histories.Legal.{founding}
use Rattle.book.specs.Opening.Openings.{Establishes}
use Rattle.book.specs.declared.faults.BookFault.TheVariants as fault
use Rattle.book.proofs.JournalEntries.{keeps_settled}
use Rattle.book.proofs.OpenJournals.{established, establishes, not_established}
use Rattle.book.proofs.opening.establish.Given.{Over}
use Rattle.book.proofs.opening.establish.Goals.{After-append}
use Rattle.book.proofs.opening.establish.Goals as goal

-- nothing was kept before
keeps : (g : Over) (c : After-append g) → Keeps (g.D.Disk.seen c.args.journal.disk).images c.args.journal.place c.args.journal.due [] []
keeps g c = let j = c.args.journal in keeps_settled (g.D.Disk.seen j.disk).images j.place j.due [] c.requires.nothing_due c.requires.settled

moments : (g : Over) (c : After-append g) (rules : Rules) → c.args.state.history ≡ founding rules ∷ []
    → EachMoment g.D.Disk.seen c.args.journal.disk c.append.new.self.disk (Establishes rules [])
moments g c rules founded =
    weaker g.D.Disk.seen c.args.journal.disk c.append.new.self.disk (HoldsRecordsOfOne [] [] c.args.frame.now) (Establishes rules [])
    (establishes rules c.args.frame.now c.args.state.history c.requires.founded founded) (c.append.ensures.any_moment [] [] (keeps g c))

pub book_of-requires-clause-settled : goal.book_of-requires-clause-settled
book_of-requires-clause-settled g c =
    (c.args.frame.now ∷ [], c.requires.founded, c.in-Ok.ensures.added [] [] (keeps g (goal.at.book_of-requires-clause-settled g c).After-append))

pub book_of-requires-clause-within : goal.book_of-requires-clause-within
book_of-requires-clause-within g c =
    let first : c.args.journal.place ≡ 16 = c.stands.ensures.total [] [] (keeps g (goal.at.book_of-requires-clause-within g c).After-append) in
    omega (arith, first, c.in-Ok.ensures.place, c.requires.short)

pub returns-in-Ok : goal.returns-in-Ok
returns-in-Ok g c rules founded =
    let D = g.D.Disk in
    established D.seen rules c.args.opening c.args.journal.disk c.append.new.self.disk (moments g (goal.at.returns-in-Ok g c).After-append rules founded)
    c.append.ensures.cause.later c.book_of.result c.args.state.history c.book_of.ensures.view c.book_of.ensures.sound founded

pub returns-in-Err : goal.returns-in-Err
returns-in-Err g c rules founded =
    let D = g.D.Disk in
    rw c.close.ensures
    (not_established D.seen rules c.args.opening c.args.journal.disk c.append.new.self.disk (moments g (goal.at.returns-in-Err g c).After-append rules founded)
    c.append.ensures.cause.later fault.Disk refl c.in-Err.ensures.cause.failed)
