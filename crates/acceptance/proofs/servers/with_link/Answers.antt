use Rattle.std.proofs.Common.{All, subst, sym}
use Rattle.std.proofs.lemmas.List.Elements.{All-push}
use Rattle.campaign_server.specs.Doors.{IsNew}
use Rattle.acceptance.proofs.servers.with_link.Goals as goal

pub returns : goal.returns
returns g c =
    subst (All (λ link. IsNew (g.I.Link.seen link))) (sym c.in_ok-push.ensures.items)
    (All-push (λ link. IsNew (g.I.Link.seen link)) c.args.links.items c.args.link c.requires.all c.requires.new)
