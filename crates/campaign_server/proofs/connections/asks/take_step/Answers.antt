use Rattle.std.proofs.Common.{subst}
use Rattle.campaign_server.specs.ConnectionLoop.FedRequests.{PieceOn}
use Rattle.campaign_server.proofs.ReadPieces.StreamSteps.{head_fits, head_stands, need_asks, piece_stands, refused_asks, whole_asks}
use Rattle.campaign_server.proofs.connections.asks.take_step.Goals as goal

pub returns-in-Ok-Head-clause-goes : goal.returns-in-Ok-Head-clause-goes
returns-in-Ok-Head-clause-goes c = λ rest stands.
    head_stands c.pieces_go_on.ensures c.args.keys.now c.args.wire.now c.next.new.self c.in-Ok-Head.head c.args.present.now c.begin.new.present
    (rw c.in-Ok-Head.field-0-is at c.in-Ok-Head.ensures.ok) c.begin.ensures rest stands

pub returns-in-Ok-Head-clause-fits : goal.returns-in-Ok-Head-clause-fits
returns-in-Ok-Head-clause-fits c =
    head_fits c.pieces_go_on.ensures c.args.keys.now c.args.wire.now c.next.new.self c.in-Ok-Head.head
    c.begin.new.present c.args.wire.now.left c.args.wire.now.bytes
    (rw c.in-Ok-Head.field-0-is at c.in-Ok-Head.ensures.ok) (rw c.in-Ok-Head.field-0-is at c.in-Ok-Head.ensures.body) c.begin.ensures

pub returns-in-Ok-Piece-clause-goes : goal.returns-in-Ok-Piece-clause-goes
returns-in-Ok-Piece-clause-goes c = λ rest stands.
    piece_stands c.pieces_go_on.ensures c.args.keys.now c.args.wire.now c.next.new.self c.in-Ok-Piece.text c.args.present.now c.take_piece.new.present
    (rw c.in-Ok-Piece.field-0-is at c.in-Ok-Piece.ensures.ok)
    (subst (λ text. PieceOn c.args.present.now text c.take_piece.new.present) c.bytes.ensures c.take_piece.ensures) rest stands

pub returns-in-Ok-Whole-clause-goes : goal.returns-in-Ok-Whole-clause-goes
returns-in-Ok-Whole-clause-goes c = λ told ends rest stands.
    whole_asks c.pieces_go_on.ensures c.args.keys.now c.args.wire.now c.next.new.self c.args.present.now told
    (rw c.in-Ok-Whole.field-0-is at c.in-Ok-Whole.ensures.ok) ends rest stands

pub returns-in-Ok-Need-clause-goes : goal.returns-in-Ok-Need-clause-goes
returns-in-Ok-Need-clause-goes c = λ rest stands.
    need_asks c.pieces_go_on.ensures c.args.keys.now c.args.wire.now c.next.new.self c.in-Ok-Need.clean c.args.present.now
    (rw c.in-Ok-Need.field-0-is at c.in-Ok-Need.ensures.ok) rest stands

pub returns-in-Ok-Refused-clause-goes : goal.returns-in-Ok-Refused-clause-goes
returns-in-Ok-Refused-clause-goes c = λ rest stands.
    refused_asks c.pieces_go_on.ensures c.args.keys.now c.args.wire.now c.next.new.self c.in-Ok-Refused.fault c.args.present.now
    (rw c.in-Ok-Refused.field-0-is at c.in-Ok-Refused.ensures.ok) rest stands
