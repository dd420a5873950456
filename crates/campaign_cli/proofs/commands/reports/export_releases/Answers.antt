-- The text of the releases is told, if there was memory for it; or the archive's keeper failed.
use Rattle.std.proofs.Common.{ap, Err}
use Rattle.campaign_cli.specs.declared.endings.Cause.TheVariants as cause
use Rattle.campaign_cli.specs.Causes.{says}
use Rattle.campaign_cli.specs.Ends.ReportEnds.{export_text, listed}
use Rattle.campaign_cli.proofs.CommandWays.{not_listed}
use Rattle.campaign_cli.proofs.commands.reports.export_releases.Goals as goal

pub returns-in-Ok-export_text : goal.returns-in-Ok-export_text
returns-in-Ok-export_text g c = record {
  way = listed c.in-Ok.all.items c.in-Ok.ensures.all;
  told = ap (says cause.Done) (rw c.deref.ensures.value at c.in-Ok-export_text.ensures);
  archive = (c.in-Ok.ensures.later, c.in-Ok.ensures.same);
}

pub returns : goal.returns
returns g c =
    not_listed export_text (g.K.Keeper.seen c.args.keeper.now) (g.K.Keeper.seen c.all.new.self) c.in-Err.end c.cause_of.result c.cause_of.ensures
    c.in-Err.ensures.later c.in-Err.ensures.same
    (λ is. c.in-Err.ensures.failed (ap Err is))
