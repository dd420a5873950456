-- The disk that is opened under the rules of the settings.
use Rattle.std.proofs.Common.{refl}
use Rattle.campaign_cli.specs.Ends.BookEnds.{unset}
use Rattle.campaign_cli.proofs.CommandWays.{opened_disk, refused_disk}
use Rattle.campaign_cli.proofs.openings.open_book.Goals as goal

pub returns-in-Ok-clause-opened : goal.returns-in-Ok-clause-opened
returns-in-Ok-clause-opened g c =
    opened_disk g.D.Disk.seen c.in-Ok.settings (g.F.Shelf.seen c.args.shelf.now) c.args.disk c.in-Ok.ensures.given
    c.open_settings.result c.open_settings.ensures.opened c.open_settings.ensures.callers

pub returns-in-Ok-clause-unopened : goal.returns-in-Ok-clause-unopened
returns-in-Ok-clause-unopened g c =
    refused_disk g.D.Disk.seen c.in-Ok.settings (g.F.Shelf.seen c.args.shelf.now) (g.F.Shelf.seen c.own_settings.new.shelf) c.args.disk c.in-Ok.ensures.given
    c.open_settings.result c.open_settings.ensures.refused

pub returns-in-Err-clause-unopened : goal.returns-in-Err-clause-unopened
returns-in-Err-clause-unopened g c = record { way = unset c.in-Err.ensures.none.way refl; told = c.in-Err.ensures.none.told }
