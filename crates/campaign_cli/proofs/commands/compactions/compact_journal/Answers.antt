-- What came of a journal that was to be compacted is told.
use Rattle.std.proofs.Common.{refl, sym, subst}
use Rattle.book.specs.declared.compacting.CompactEnd.{CompactEnd}
use Rattle.campaign_cli.specs.Causes.{ending_of}
use Rattle.campaign_cli.specs.Ends.CompactEnds.{IsToldEnd}
use Rattle.campaign_cli.proofs.commands.compactions.compact_journal.Goals as goal

pub returns-in-Done : goal.returns-in-Done
returns-in-Done g c = (
  c.compact-disk.result.1,
  c.compact-disk.ensures,
  subst (λ (e : CompactEnd). IsToldEnd g.D.Disk.seen e (ending_of c.told_numbers.result))
      (sym c.in-Done.is) c.told_numbers.ensures,
)

pub returns : goal.returns
returns g c = (
  c.compact-disk.result.1,
  c.compact-disk.ensures,
  subst (λ (e : CompactEnd). IsToldEnd g.D.Disk.seen e (ending_of c.told_of.result))
      (sym c.in-Fault.is) c.told_of.ensures,
)
