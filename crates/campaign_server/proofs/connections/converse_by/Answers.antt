use Rattle.std.proofs.Common.{◌≡◌, ◌∙◌, ◌++◌, ◌^◌, [], ap, refl, sym, subst, arith}
use Rattle.campaign_server.specs.Conversations.Chains.{Chain}
use Rattle.campaign_server.specs.ConnectionLoop.FedRequests.{WasFed}
use Rattle.campaign_server.specs.Connections.{IsLast}
use Rattle.campaign_server.specs.Links.{LinkReading}
use Rattle.campaign_server.proofs.ReadPieces.ConnectionBytes.{so_none, so_more, ends_at_end, ends_last, ends_memory, ends_read_fault, ends_worn, piece_spoken}
use Rattle.campaign_server.proofs.ReadPieces.StreamSteps.{fed_stands}
use Rattle.campaign_server.proofs.connections.converse_by.Goals as goal

pub pieces-init : goal.pieces-init
pieces-init g c = record {
  so = (
    [],
    subst (WasFed c.args.keys.now []) (sym c.requires) refl,
    so_none (Chain g.T.Teller.tells c.args.keys.now c.args.teller.now (g.I.Link.seen c.args.link.now).clock c.args.teller.now
        (g.I.Link.seen c.args.link.now).clock) (g.I.Link.seen c.args.link.now) [] refl (refl, refl),
  );
  few = omega arith;
  later = omega arith;
}

pub returns-in-Err-Failed : goal.returns-in-Err-Failed
returns-in-Err-Failed g c =
    let piece = rw c.in-Err-Failed.field-0-is at c.in-Err-Failed.ensures.piece in
    ends_read_fault (Chain g.T.Teller.tells c.args.keys.now c.args.teller.now (g.I.Link.seen c.args.link.now).clock c.pieces.teller)
    (g.I.Link.seen c.args.link.now) c.pieces.invariant.so.0 (g.I.Link.seen c.pieces.link)
    c.pieces.taken c.pieces.clean c.pieces.invariant.so.2 (g.I.Link.seen c.read_piece.new.link) piece.0 piece.1
    c.in-Err-Failed.ensures.writing_kept c.in-Err-Failed.ensures.clock_kept c.pieces.invariant.later piece.2

pub returns-in-Err-Memory : goal.returns-in-Err-Memory
returns-in-Err-Memory g c =
    let (piece, few, heard, last) = rw c.in-Err-Memory.field-0-is at c.in-Err-Memory.ensures.piece in
    ends_memory (Chain g.T.Teller.tells c.args.keys.now c.args.teller.now (g.I.Link.seen c.args.link.now).clock c.pieces.teller)
    (g.I.Link.seen c.args.link.now) c.pieces.invariant.so.0 (g.I.Link.seen c.pieces.link)
    c.pieces.taken c.pieces.clean c.pieces.invariant.so.2 c.readings_go_on.ensures piece
    (g.I.Link.seen c.read_piece.new.link) few heard last c.in-Err-Memory.ensures.writing_kept c.in-Err-Memory.ensures.clock_kept

pub returns-in-Ok-eq0 : goal.returns-in-Ok-eq0
returns-in-Ok-eq0 g c =
    let (piece, sized, heard, last, after, at_end) = c.in-Ok-eq0.ensures.piece in
    rw c.at_end.ensures
    (ends_at_end (Chain g.T.Teller.tells c.args.keys.now c.args.teller.now (g.I.Link.seen c.args.link.now).clock c.pieces.teller)
    (g.I.Link.seen c.args.link.now) c.pieces.invariant.so.0 (g.I.Link.seen c.pieces.link)
    c.pieces.taken c.pieces.clean c.pieces.invariant.so.2 piece (g.I.Link.seen c.read_piece.new.link) (sized.size ∙ c.in-Ok-eq0.field-0-test) heard
    (subst (IsLast (g.I.Link.seen c.read_piece.new.link)) c.in-Ok-eq0.field-0-test last) (at_end c.in-Ok-eq0.field-0-test)
    c.in-Ok-eq0.ensures.writing_kept c.in-Ok-eq0.ensures.clock_kept c.pieces-test.true)

pub pieces-preserved : goal.pieces-preserved
pieces-preserved g c =
    let was = g.I.Link.seen c.args.link.now in
    let mid = g.I.Link.seen c.read_piece.new.link in
    let is = g.I.Link.seen c.answer_all.new.link in
    let so = c.pieces.invariant.so.2 in
    let (piece, sized, heard, last, after, at_end) = c.in-Ok.ensures.piece in
    let spoke = piece_spoken (Chain g.T.Teller.tells c.args.keys.now c.args.teller.now was.clock c.pieces.teller) was c.pieces.invariant.so.0
    (g.I.Link.seen c.pieces.link) c.pieces.taken c.pieces.clean so
    c.readings_go_on.ensures piece mid c.in-Ok.ensures.writing_kept c.in-Ok.ensures.clock_kept in
    let stands : WasFed c.args.keys.now (c.pieces.invariant.so.0 ++ piece) c.read_piece.new.stream =
    subst (WasFed c.args.keys.now (c.pieces.invariant.so.0 ++ piece)) (sym after)
    (fed_stands c.pieces_go_on.ensures c.args.keys.now c.pieces.invariant.so.0 piece c.pieces.stream.present c.pieces.stream.wire c.pieces.invariant.so.1) in
    let (next, on, pause) = c.in-Ok-answer_all.ensures.pause c.args.teller.now was (so.bytes ++ piece) (c.pieces.invariant.so.0 ++ piece) stands spoke in
    record {
      so = (
        next,
        on,
        so_more (Chain g.T.Teller.tells c.args.keys.now c.args.teller.now was.clock c.pieces.teller) was c.pieces.invariant.so.0
            (g.I.Link.seen c.pieces.link) c.pieces.taken c.pieces.clean so
            (Chain g.T.Teller.tells c.args.keys.now c.args.teller.now was.clock c.answer_all.new.teller) piece mid
            c.in-Ok.count next is c.in-Ok-answer_all.now sized heard last pause c.in-Ok-answer_all.ensures.reading_kept,
      );
      few = sized.room;
      later = omega (arith, c.pieces.invariant.later, c.in-Ok.ensures.later, ap (λ (r : LinkReading). r.faults) c.in-Ok-answer_all.ensures.reading_kept);
    }

pub returns-in-Err : goal.returns-in-Err
returns-in-Err g c =
    let was = g.I.Link.seen c.args.link.now in
    let mid = g.I.Link.seen c.read_piece.new.link in
    let is = g.I.Link.seen c.answer_all.new.link in
    let so = c.pieces.invariant.so.2 in
    let (piece, sized, heard, last, after, at_end) = c.in-Ok.ensures.piece in
    let spoke = piece_spoken (Chain g.T.Teller.tells c.args.keys.now c.args.teller.now was.clock c.pieces.teller) was c.pieces.invariant.so.0
    (g.I.Link.seen c.pieces.link) c.pieces.taken c.pieces.clean so
    c.readings_go_on.ensures piece mid c.in-Ok.ensures.writing_kept c.in-Ok.ensures.clock_kept in
    let stands : WasFed c.args.keys.now (c.pieces.invariant.so.0 ++ piece) c.read_piece.new.stream =
    subst (WasFed c.args.keys.now (c.pieces.invariant.so.0 ++ piece)) (sym after)
    (fed_stands c.pieces_go_on.ensures c.args.keys.now c.pieces.invariant.so.0 piece c.pieces.stream.present c.pieces.stream.wire c.pieces.invariant.so.1) in
    rw c.last_end.ensures
    (ends_last (Chain g.T.Teller.tells c.args.keys.now c.args.teller.now was.clock c.pieces.teller) was c.pieces.invariant.so.0
    (g.I.Link.seen c.pieces.link) c.pieces.taken c.pieces.clean so
    (Chain g.T.Teller.tells c.args.keys.now c.args.teller.now was.clock c.answer_all.new.teller) piece mid c.in-Ok.count is c.in-Err.end sized heard last
    (c.in-Err.ensures.ends c.args.teller.now was (so.bytes ++ piece) (c.pieces.invariant.so.0 ++ piece) stands spoke) c.in-Err.ensures.reading_kept)

pub returns : goal.returns
returns g c =
    let full : c.pieces.taken ≡ 2 ^ 40 = omega (arith, c.pieces.invariant.few, c.pieces-test.false) in
    ends_worn (Chain g.T.Teller.tells c.args.keys.now c.args.teller.now (g.I.Link.seen c.args.link.now).clock c.pieces.teller)
    (g.I.Link.seen c.args.link.now) c.pieces.invariant.so.0 (g.I.Link.seen c.pieces.link)
    c.pieces.taken c.pieces.clean c.pieces.invariant.so.2 full
