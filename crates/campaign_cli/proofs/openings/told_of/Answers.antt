-- What is told of a disk that isn't opened.
use Rattle.std.proofs.Common.{List, ℕ, inl, inr, refl, sym, subst, ap, ◌∙◌}
use Rattle.book.specs.declared.faults.BookFault.{BookFault}
use Rattle.campaign_cli.specs.declared.endings.Cause.TheVariants as cause
use Rattle.campaign_cli.specs.Ends.BookEnds.{IsToldOf}
use Rattle.campaign_cli.specs.Causes.{says}
use Rattle.campaign_cli.proofs.openings.told_of.Goals as goal

pub returns-in-Ok : goal.returns-in-Ok
returns-in-Ok c = rw c.in-Damaged.is (inl (ap (says cause.Damaged) c.in-Ok.ensures))

pub returns-in-Err : goal.returns-in-Err
returns-in-Err c = inr (c.in-Damaged.entry, c.in-Damaged.is, refl)
