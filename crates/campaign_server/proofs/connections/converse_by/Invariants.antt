-- What was done so far is what the pieces read so far ask, what is taken is at most 2^40, and faults aren't fewer.
use Rattle.std.proofs.Common.{◌-◌, ◌≤◌, ◌^◌, ℕ, List}
use Rattle.campaign_server.specs.ConnectionLoop.FedRequests.{WasFed}
use Rattle.campaign_server.specs.Conversations.Chains.{Chain}
use Rattle.campaign_server.specs.ConnectionLoop.LoopParts.{IsSoFar}
use Rattle.campaign_server.proofs.connections.converse_by.Given as goal

abbrev pub invariant-pieces : goal.invariant-pieces
invariant-pieces g l = record {
  so : (rest : List ℕ) × WasFed l.keys rest l.stream
      × IsSoFar (Chain g.T.Teller.tells l.keys l.initial.teller (g.I.Link.seen l.initial.link).clock l.teller (g.I.Link.seen l.link).clock)
      (g.I.Link.seen l.initial.link) rest (g.I.Link.seen l.link) l.taken l.clean;
  few : l.taken ≤ 2 ^ 40;
  later : (g.I.Link.seen l.initial.link).reading.faults ≤ (g.I.Link.seen l.link).reading.faults;
}

abbrev pub decreases-pieces : goal.decreases-pieces
decreases-pieces g l = 2 ^ 40 - l.taken
