-- The settings that the bytes of the file give, or that they give none.
use Rattle.std.proofs.Common.{◌≡◌, None, Some, refl, rules}
use Rattle.campaign_settings.specs.Settings.{settings_of}
use Rattle.campaign_cli.specs.Ends.BookEnds.{refused, settings_file}
use Rattle.campaign_cli.specs.Surroundings.Shelves.{GivesFile}
use Rattle.campaign_cli.proofs.CommandWays.{settings_unread}
use Rattle.campaign_cli.proofs.openings.own_settings.Goals as goal

pub returns-in-Ok-read_settings-clause-given : goal.returns-in-Ok-read_settings-clause-given
returns-in-Ok-read_settings-clause-given g c =
    let given : GivesFile (g.F.Shelf.seen c.args.shelf.now) settings_file c.in-Ok.text.items = search rules in
    let read : settings_of c.in-Ok.text.items ≡ Some c.in-Ok-read_settings.settings = search rules in
    (c.in-Ok.text.items, given, read)

pub returns-in-Err-clause-none : goal.returns-in-Err-clause-none
returns-in-Err-clause-none g c =
    settings_unread (g.F.Shelf.seen c.args.shelf.now) (g.F.Shelf.seen c.read.new.shelf) c.in-Err.cause c.in-Err.ensures.unread

pub returns-in-Err-Refused-clause-none : goal.returns-in-Err-Refused-clause-none
returns-in-Err-Refused-clause-none g c =
    let given : GivesFile (g.F.Shelf.seen c.args.shelf.now) settings_file c.in-Ok.text.items = search rules in
    let none : settings_of c.in-Ok.text.items ≡ None = search rules in
    record { way = refused (c.in-Ok.text.items, given, none); told = refl }
