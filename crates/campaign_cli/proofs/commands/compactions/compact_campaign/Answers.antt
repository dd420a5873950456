-- The journal of the settings that were read is compacted, or why there are none.
use Rattle.std.proofs.Common.{refl}
use Rattle.campaign_cli.specs.Ends.BookEnds.{short, unopened, unset}
use Rattle.campaign_cli.specs.Causes.{ending_of}
use Rattle.campaign_cli.proofs.ToldCauses.{still}
use Rattle.campaign_cli.proofs.CommandWays.{compacted_campaign}
use Rattle.campaign_cli.proofs.commands.compactions.compact_campaign.Goals as goal

pub returns-in-Ok-own_settings : goal.returns-in-Ok-own_settings
returns-in-Ok-own_settings g c =
    compacted_campaign g.D.Disk.seen (g.F.Shelf.seen c.args.shelf.now) (g.F.Shelf.seen c.own_settings.new.shelf) c.args.disk c.compact_journal.result.1
    (ending_of c.compact_journal.result.0) c.in-Ok-own_settings.settings c.in-Ok-own_settings.ensures.given
    c.in-Ok-own_settings.ensures.follows c.compact_journal.ensures

pub returns-in-Err : goal.returns-in-Err
returns-in-Err g c = record { way = unopened (unset c.in-Err.ensures.none.way refl) tt; told = c.in-Err.ensures.none.told; follows = c.in-Err.ensures.follows }

pub returns-in_default : goal.returns-in_default
returns-in_default g c = record { way = unopened (unset short refl) tt; told = refl; follows = still (g.F.Shelf.seen c.args.shelf.now) }
