-- A server of the campaign that was opened, or why there is none.
use Rattle.std.proofs.Common.{refl, ap, subst, List}
use Rattle.campaign_server.specs.Servers.{ServesBook}
use Rattle.routes.specs.declared.keys.KeyRow.{KeyRow}
use Rattle.campaign_cli.specs.Ends.BookEnds.{unopened, worked}
use Rattle.campaign_cli.specs.Causes.{silent}
use Rattle.campaign_cli.proofs.commands.servers.run_server.Goals as goal

pub returns-in-Ok : goal.returns-in-Ok
returns-in-Ok g c =
    let opened = c.in-Ok.ensures.opened in
    let closes = c.serve_links-cause.ensures in
    record {
      way = worked (
        opened.text,
        opened.settings,
        opened.given,
        opened.read,
        record {
          how = closes.how;
          opened = c.in-Ok.book;
          closed = closes.closed;
          opens = opened.opened;
          serves = subst
              (λ (callers : List KeyRow). ServesBook g.D.Disk.seen callers c.args.numbers c.in-Ok.book closes.closed
              (g.R.Door.seen c.args.door.now) (g.R.Door.seen c.serve_links-cause.new.door) closes.how)
              opened.callers_are closes.serves;
          sound = closes.sound;
          closes = closes.closes;
        },
      );
      told = ap silent closes.told_is;
      follows = c.in-Ok.ensures.follows;
    }

pub returns-in-Err : goal.returns-in-Err
returns-in-Err g c = record { way = unopened c.in-Err.ensures.unopened.way refl; told = c.in-Err.ensures.unopened.told; follows = c.in-Err.ensures.follows }
