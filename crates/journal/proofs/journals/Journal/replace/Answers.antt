-- What replacing comes to, said of a journal and an area.
use Rattle.std.proofs.Common.{subst}
use Rattle.journal.specs.Journals.{JournalState}
use Rattle.journal.specs.Replacements.{Replaces}
use Rattle.journal.proofs.journals.Journal.replace.Goals as goal

pub returns : goal.returns
returns g c = subst
    (λ (journal : JournalState g.row.D.Denot). Replaces g.D.Disk.seen journal.disk c.replace_records-end.new.disk
    journal.place journal.due c.args.area c.replace_records-end.result)
    c.self.view_is (c.replace_records-end.ensures c.args.area c.written.ensures)
