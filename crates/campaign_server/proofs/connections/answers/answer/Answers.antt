use Rattle.std.proofs.Common.{subst}
use Rattle.std.specs.Prelude.{OnOk, OnErr}
use Rattle.std.specs.Io.KnownBytes.{Appends}
use Rattle.decimal_rank.specs.Outputs.KnownBytes.{AppendsPart}
use Rattle.campaign_server.proofs.TalkSteps.AnsweredRequests.{turn_of}
use Rattle.campaign_server.proofs.connections.answers.answer.Goals as goal

pub returns-clause-turn : goal.returns-clause-turn
returns-clause-turn g c =
    let was = g.I.Link.seen c.args.link.now in
    let is = g.I.Link.seen c.write_all-written.new.link in
    let same = c.moment-moment.ensures.writing_kept in
    let whole = subst (λ w. OnOk c.write_all-written.result (Appends w.written is.writing.written c.text.result.now)) same c.write_all-written.ensures.all in
    let part = subst
    (λ w. OnErr c.write_all-written.result (AppendsPart w.written is.writing.written c.text.result.now)) same c.write_all-written.ensures.part in
    turn_of g.T.Teller.tells c.args.teller.now was (g.I.Link.seen c.moment-moment.new.self) is c.args.reading c.args.close
    c.moment-moment.result c.act-answered.result c.put.new.self c.write_all-written.result c.act-answered.new.teller
    c.moment-moment.ensures.ticks c.write_all-written.ensures.clock_kept c.act-answered.ensures.answer
    (subst (λ t. OnOk c.write_all-written.result (Appends was.writing.written is.writing.written t)) c.text.ensures whole)
    (subst (λ t. OnErr c.write_all-written.result (AppendsPart was.writing.written is.writing.written t)) c.text.ensures part)
    c.act-answered.ensures.plain c.act-answered.ensures.short c.put.ensures.text c.put.ensures.fits
