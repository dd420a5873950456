-- A generated campaign was played.
use Rattle.std.proofs.Common.{ap, refl}
use Rattle.campaign_cli.specs.declared.endings.Cause.TheVariants as cause
use Rattle.campaign_cli.specs.Causes.{says}
use Rattle.campaign_cli.specs.Ends.DrillEnds.{played, short}
use Rattle.campaign_cli.proofs.commands.drills.run_drill.Goals as goal

pub returns-in-Ok : goal.returns-in-Ok
returns-in-Ok g c = record { way = played c.in-Ok.ensures.0 c.in-Ok.ensures.1; told = ap (says cause.Done) c.in-Ok.ensures.2 }

pub returns-in-Err : goal.returns-in-Err
returns-in-Err g c = record { way = short; told = refl }
