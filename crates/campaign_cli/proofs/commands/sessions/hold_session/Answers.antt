-- A session with the campaign that was opened, or why there is none.
use Rattle.std.proofs.Common.{refl, ap, subst, List}
use Rattle.campaign_server.specs.Connections.{ConnectionEnds}
use Rattle.campaign_server.specs.Sessions.{IsSession}
use Rattle.routes.specs.declared.keys.KeyRow.{KeyRow}
use Rattle.campaign_cli.specs.Ends.BookEnds.{unopened, worked}
use Rattle.campaign_cli.specs.Causes.{silent}
use Rattle.campaign_cli.proofs.commands.sessions.hold_session.Goals as goal

pub returns-in-Ok : goal.returns-in-Ok
returns-in-Ok g c =
    let opened = c.in-Ok.ensures.opened in
    let answers = c.answer_link-cause.ensures in
    let own = g.I.Link.seen c.args.own.now in
    let later = g.I.Link.seen c.answer_link-cause.new.own in
    record {
      way = worked (
        opened.text,
        opened.settings,
        opened.given,
        opened.read,
        record {
          how = answers.how;
          opened = c.in-Ok.book;
          closed = answers.closed;
          opens = opened.opened;
          talk = subst
              (λ (callers : List KeyRow). ConnectionEnds
              (IsSession g.D.Disk.seen callers c.in-Ok.book own.clock answers.closed later.clock) own later answers.how)
              opened.callers_are answers.talk;
          runs = answers.runs;
          sound = answers.sound;
          closes = answers.closes;
        },
      );
      told = ap silent answers.told_is;
      follows = c.in-Ok.ensures.follows;
    }

pub returns-in-Err : goal.returns-in-Err
returns-in-Err g c = record { way = unopened c.in-Err.ensures.unopened.way refl; told = c.in-Err.ensures.unopened.told; follows = c.in-Err.ensures.follows }
