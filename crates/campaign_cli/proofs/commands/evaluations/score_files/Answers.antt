-- The ways of `eval`, from the two files that were read.
use Rattle.std.proofs.Common.{refl}
use Rattle.campaign_cli.specs.Ends.EvalEnds.{refused, scored}
use Rattle.campaign_cli.proofs.ToldFiles.{follows_on, given_before}
use Rattle.campaign_cli.proofs.CommandWays.{qrels_unread, run_unread}
use Rattle.campaign_cli.proofs.commands.evaluations.score_files.Goals as goal

pub returns-in-Err : goal.returns-in-Err
returns-in-Err g c =
    run_unread c.args.run.now c.args.qrels.now (g.F.Shelf.seen c.args.shelf.now) (g.F.Shelf.seen c.read.new.shelf) c.in-Err.ensures.follows
    c.in-Err.cause c.in-Err.ensures.unread

pub returns-in-Err-read : goal.returns-in-Err-read
returns-in-Err-read g c =
    let seen = g.F.Shelf.seen in
    qrels_unread c.args.run.now c.args.qrels.now (seen c.args.shelf.now) (seen c.read.new.shelf) c.in-Ok.ensures.follows
    (seen c.read-2.new.shelf) c.in-Err-read.cause c.in-Err-read.ensures.follows c.in-Err-read.ensures.unread

pub returns-in-Ok-Report : goal.returns-in-Ok-Report
returns-in-Ok-Report g c =
    let seen = g.F.Shelf.seen in
    let finds = rw c.in-Ok-Report.field-0-is at c.in-Ok-Report.ensures in
    let later = given_before (seen c.args.shelf.now)
    (seen c.read.new.shelf) c.args.qrels.now c.in-Ok-read.bytes.items c.in-Ok.ensures.follows c.in-Ok-read.ensures.given in (
      record {
        way = scored c.in-Ok.bytes.items c.in-Ok-read.bytes.items c.in-Ok-Report.text.items c.in-Ok.ensures.given later
            (rw (c.deref.ensures.value, c.deref-2.ensures.value) at finds);
        told = refl;
      },
      follows_on (seen c.args.shelf.now) (seen c.read.new.shelf) (seen c.read-2.new.shelf) c.in-Ok.ensures.follows c.in-Ok-read.ensures.follows,
    )

pub returns-in-Ok-Input : goal.returns-in-Ok-Input
returns-in-Ok-Input g c =
    let seen = g.F.Shelf.seen in
    let finds = rw c.in-Ok-Input.field-0-is at c.in-Ok-Input.ensures in
    let later = given_before (seen c.args.shelf.now)
    (seen c.read.new.shelf) c.args.qrels.now c.in-Ok-read.bytes.items c.in-Ok.ensures.follows c.in-Ok-read.ensures.given in (
      record {
        way = refused c.in-Ok.bytes.items c.in-Ok-read.bytes.items c.in-Ok-Input.line.items c.in-Ok.ensures.given later
            (rw (c.deref.ensures.value, c.deref-2.ensures.value) at finds);
        told = refl;
      },
      follows_on (seen c.args.shelf.now) (seen c.read.new.shelf) (seen c.read-2.new.shelf) c.in-Ok.ensures.follows c.in-Ok-read.ensures.follows,
    )
