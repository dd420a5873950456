-- The command that was read ends so; or there was no memory to read the words.
use Rattle.std.proofs.Common.{refl, rules}
use Rattle.campaign_cli.specs.Endings.{kind_of}
use Rattle.campaign_cli.specs.Kinds.{unread}
use Rattle.campaign_cli.specs.Requests.{request_of_command}
use Rattle.campaign_cli.proofs.ToldCauses.{at_end}
use Rattle.campaign_cli.proofs.program.campaign.Goals as goal

pub returns-in-Ok : goal.returns-in-Ok
returns-in-Ok g c =
    let devices = c.run_and_tell.new.devices in
    rw c.in-Ok.ensures.asked
    (at_end (kind_of g.D.Disk.seen (request_of_command c.in-Ok.command)) _ c.run_and_tell.result.0.0
    (g.O.Output.writing c.run_and_tell.new.out) c.run_and_tell.result.1
    (g.F.Shelf.seen devices.shelf.now) _ (g.I.Link.seen devices.own.now) _ (g.R.Door.seen devices.door.now) _ (g.K.Keeper.seen devices.keeper.now) _
    (search rules) (search rules) (search rules) (search rules) c.run_and_tell.ensures.ends)

pub returns-in-Err : goal.returns-in-Err
returns-in-Err g c = unread refl c.status_of.ensures
