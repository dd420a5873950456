-- What a journal keeps, its images give.
use Rattle.journal.proofs.DueRecords.{keeps_stands, keeps_total}
use Rattle.journal.proofs.Replacements.{settled_alone}
use Rattle.journal.proofs.Steps.{shut_reads}
use Rattle.journal.proofs.journals.Journal.stands.Goals as goal

pub returns-clause-stands : goal.returns-clause-stands
returns-clause-stands g c all pending keeps image here =
    keeps_stands (g.D.Disk.seen c.args.self.now.disk).images c.args.self.now.place c.args.self.now.due all pending keeps image here

pub returns-clause-alone : goal.returns-clause-alone
returns-clause-alone g c all settled image here = shut_reads (g.D.Disk.seen c.args.self.now.disk).images c.args.self.now.place all _ settled image here

pub returns-clause-total : goal.returns-clause-total
returns-clause-total g c all pending keeps = keeps_total (g.D.Disk.seen c.args.self.now.disk).images c.args.self.now.place c.args.self.now.due all pending keeps

pub returns-clause-length : goal.returns-clause-length
returns-clause-length g c all settled = settled_alone (g.D.Disk.seen c.args.self.now.disk).images c.args.self.now.place all settled
