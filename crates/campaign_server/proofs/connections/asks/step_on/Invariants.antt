-- The request being read fits the wire, which shrinks with each step, and what they stand for stays.
use Rattle.std.proofs.Common.{◌≤◌, ℕ, List}
use Rattle.http_wire.specs.Pieces.{steps_left}
use Rattle.campaign_server.specs.ConnectionLoop.FedRequests.{RestFits, WasFed, stream_at}
use Rattle.campaign_server.proofs.connections.asks.step_on.Given as goal

abbrev pub invariant-steps : goal.invariant-steps
invariant-steps l =
    RestFits l.present l.wire × (steps_left l.wire ≤ steps_left l.initial.wire)
    × ((rest : List ℕ) → WasFed l.keys rest (stream_at l.initial.wire l.initial.present) → WasFed l.keys rest (stream_at l.wire l.present))

abbrev pub decreases-steps : goal.decreases-steps
decreases-steps l = steps_left l.wire
