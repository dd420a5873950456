-- No piece so far is empty.
use Rattle.std.specs.Prelude.{IsTrue}
use Rattle.campaign_server.specs.ConnectionLoop.Pieces.{are_filled}
use Rattle.acceptance_cases.proofs.calls.pieces_of.Given as goal

abbrev pub invariant-loop-place : goal.invariant-loop-place
invariant-loop-place l = IsTrue (are_filled l.pieces.items)
