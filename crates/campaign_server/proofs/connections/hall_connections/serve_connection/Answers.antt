use Rattle.campaign_server.proofs.BookTalks.HallTalks.{connection_missed}
use Rattle.campaign_server.proofs.connections.hall_connections.serve_connection.Goals as goal

pub returns-in_default-clause-serves : goal.returns-in_default-clause-serves
returns-in_default-clause-serves g c =
    connection_missed c.args.keys.now c.args.pass.now (g.I.Link.seen c.args.link.now) (g.met.I.Link.tells_alike c.args.link.now c.args.link.now)
