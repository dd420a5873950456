-- What a session comes to, from the chain of the book's states.
use Rattle.campaign_server.proofs.BookTalks.SessionChains.{session_ends}
use Rattle.campaign_server.proofs.sessions.session.Goals as goal

pub returns : goal.returns
returns g c =
    let (kept, ends) =
    session_ends g.D.Disk.seen c.args.keys.now g.met.D.Disk.only_now c.args.book.now c.converse.new.teller (g.I.Link.seen c.args.link.now)
    (g.I.Link.seen c.converse.new.link)
    c.converse.result c.stands.ensures c.converse.ensures in
    record { ends = ends; runs = kept.0; sound = kept.1; numbered = c.numbers_are_used_once.ensures c.converse.new.teller.history kept.1.legal }
