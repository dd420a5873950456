use Rattle.std.proofs.Common.{rules, subst}
use Rattle.hall.specs.Acts.{Known}
use Rattle.rulebook.specs.declared.entry.Entry.{Entry}
use Rattle.campaign_server.specs.HallConnections.{Serves}
use Rattle.campaign_server.proofs.BookTalks.HallTalks.{connection_serves}
use Rattle.campaign_server.proofs.connections.hall_connections.serve_link.Goals as goal

-- the pass that is handed back is the one that was lent
pub returns : goal.returns
returns g c =
    let was = g.I.Link.seen c.args.link.now in
    let is = g.I.Link.seen c.converse_with.new.link in
    let (same, hall, serves) =
    connection_serves (λ v. v.pass.now) (λ v. v.pass.ghost_name) c.args.keys.now _ c.converse_with.new.teller was is
    c.converse_with.result c.converse_with.ensures (g.met.I.Link.tells_alike c.args.link.now c.converse_with.new.link) in
    record {
      hall = search rules;
      serves = subst (λ (p : Known Entry). Serves c.args.keys.now c.args.pass.now p was is c.converse_with.result) (search rules) serves;
    }
