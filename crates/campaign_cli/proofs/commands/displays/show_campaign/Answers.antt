-- The campaign that was opened is shown, or why there is none.
use Rattle.std.proofs.Common.{refl}
use Rattle.campaign_cli.specs.Ends.BookEnds.{unopened}
use Rattle.campaign_cli.specs.Causes.{ending_of}
use Rattle.campaign_cli.specs.ShownTexts.{text_by}
use Rattle.campaign_cli.proofs.CommandWays.{shown_campaign}
use Rattle.campaign_cli.proofs.commands.displays.show_campaign.Goals as goal

pub returns-in-Ok : goal.returns-in-Ok
returns-in-Ok g c =
    shown_campaign g.D.Disk.seen (g.F.Shelf.seen c.args.shelf.now)
    (g.F.Shelf.seen c.open_book.new.shelf) c.args.disk c.show.result.1 (ending_of c.show.result.0)
    (text_by c.args.display) c.in-Ok.book c.in-Ok._callers c.in-Ok.ensures.opened c.in-Ok.ensures.follows c.show.ensures.shown c.show.ensures.disk

pub returns-in-Err : goal.returns-in-Err
returns-in-Err g c = record { way = unopened c.in-Err.ensures.unopened.way tt; told = c.in-Err.ensures.unopened.told; follows = c.in-Err.ensures.follows }
