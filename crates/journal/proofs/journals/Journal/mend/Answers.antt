-- A mend, said of a journal, and what is kept after it.
use Rattle.std.proofs.Common.{subst}
use Rattle.journal.specs.Journals.{JournalState}
use Rattle.journal.specs.Mends.{Mends}
use Rattle.journal.proofs.DueRecords.{kept_of_some}
use Rattle.journal.proofs.journals.Journal.mend.Goals as goal

pub invariant_of-self : goal.invariant_of-self
invariant_of-self g c =
    let kept = c.self.invariant.1 in
    (c.self.invariant.0, kept_of_some _ c.self.inside.place c.mend_due.new.due kept.0 kept.1 (c.mend_due.ensures.kept kept.0 kept.1 kept.2))

pub returns : goal.returns
returns g c =
    let new : JournalState g.row.D.Denot = record { disk = c.mend_due.new.disk; place = c.self.inside.place; due = c.mend_due.new.due } in
    subst (λ (journal : JournalState g.row.D.Denot). Mends g.D.Disk.seen journal new c.mend_due.result) c.self.view_is c.mend_due.ensures
