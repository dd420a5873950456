-- What a mend leaves, done or failed, or where none is due.
use Rattle.std.proofs.Common.{Option, subst, sym}
use Rattle.disk_model.specs.Disks.{EachMoment}
use Rattle.rulebook.specs.declared.entry.Entry.{Entry}
use Rattle.rulebook.specs.Campaign.{History}
use Rattle.book.specs.Images.{HoldsWith}
use Rattle.book.specs.JournaledEntries.{KeepsBook}
use Rattle.book.proofs.JournalEntries.{book_holds, mend_done, mend_keeps, mend_moments, nothing_due, still_keeps, still_moments}
use Rattle.book.proofs.journaling.mend_first.Given.{Over}
use Rattle.book.proofs.journaling.mend_first.Goals.{After-mend}
use Rattle.book.proofs.journaling.mend_first.Goals as goal

pub returns-then-not-is_due-clause-keeps : goal.returns-then-not-is_due-clause-keeps
returns-then-not-is_due-clause-keeps g c H keeps =
    subst (λ (pending : Option Entry). KeepsBook g.D.Disk.seen c.args.journal.now H pending) (sym c.settle.ensures)
    (still_keeps g.D.Disk.seen c.args.journal.now H c.args.pending.now keeps
    (nothing_due c.args.journal.now.due c.is_due.result c.is_due.ensures.1 c.if-not-is_due.true))

pub returns-then-not-is_due-clause-any_moment : goal.returns-then-not-is_due-clause-any_moment
returns-then-not-is_due-clause-any_moment g c H keeps =
    still_moments g.D.Disk.seen c.args.journal.now H c.args.pending.now keeps
    (book_holds g.D.Disk.seen c.args.journal.now H c.args.pending.now keeps c.stands.ensures.stands) (g.met.D.Disk.only_now c.args.journal.now.disk)

moments : (g : Over) (c : After-mend g) (H : History) → KeepsBook g.D.Disk.seen c.args.journal.now H c.args.pending.now
    → EachMoment g.D.Disk.seen c.args.journal.now.disk c.mend.new.self.disk (HoldsWith H c.args.pending.now)
moments g c H keeps =
    mend_moments g.D.Disk.seen c.args.journal.now H c.args.pending.now keeps c.mend.new.self c.mend.ensures.any_moment

pub returns-in-Ok-clause-keeps : goal.returns-in-Ok-clause-keeps
returns-in-Ok-clause-keeps g c H keeps =
    subst (λ (pending : Option Entry). KeepsBook g.D.Disk.seen c.mend.new.self H pending) (sym c.settle-in-Ok.ensures)
    (mend_done g.D.Disk.seen c.args.journal.now H c.args.pending.now keeps c.mend.new.self c.in-Ok.ensures.mended c.in-Ok.ensures.nothing_due)

pub returns-in-Ok-clause-any_moment : goal.returns-in-Ok-clause-any_moment
returns-in-Ok-clause-any_moment g c = moments g (goal.at.returns-in-Ok-clause-any_moment g c).After-mend

pub returns-in-Err-clause-keeps : goal.returns-in-Err-clause-keeps
returns-in-Err-clause-keeps g c H keeps = mend_keeps g.D.Disk.seen c.args.journal.now H c.args.pending.now keeps c.mend.new.self c.mend.ensures.kept

pub returns-in-Err-clause-any_moment : goal.returns-in-Err-clause-any_moment
returns-in-Err-clause-any_moment g c = moments g (goal.at.returns-in-Err-clause-any_moment g c).After-mend
