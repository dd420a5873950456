-- The teller, the link and the stream went on, nothing was read, and each answered request leaves a smaller wire.
use Rattle.std.proofs.Common.{◌≡◌}
use Rattle.http_wire.specs.Pieces.{steps_left}
use Rattle.campaign_server.specs.ConnectionLoop.LoopParts.{Continues}
use Rattle.campaign_server.proofs.connections.answer_all.Given as goal

abbrev pub invariant-requests : goal.invariant-requests
invariant-requests g l = record {
  goes_on : Continues g.T.Teller.tells l.keys l.initial.teller (g.I.Link.seen l.initial.link) l.initial.stream l.teller (g.I.Link.seen l.link) l.stream;
  reading_kept : (g.I.Link.seen l.link).reading ≡ (g.I.Link.seen l.initial.link).reading;
}

abbrev pub decreases-requests : goal.decreases-requests
decreases-requests g l = steps_left l.stream.wire
