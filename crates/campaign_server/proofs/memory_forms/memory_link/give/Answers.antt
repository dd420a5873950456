use Rattle.std.proofs.Common.{◌+◌, ℕ, arith, rules, ◌∙◌}
use Rattle.std.proofs.lemmas.List.{length-drop, length-take}
use Rattle.campaign_server.proofs.ReadPieces.PiecePlaces.{place_at, inside_of, bytes_of, taken_on, taken_next, left_next, left_none, whole_of}
use Rattle.campaign_server.proofs.memory_forms.memory_link.give.Goals as goal

pub returns-in_default-clause-end : goal.returns-in_default-clause-end
returns-in_default-clause-end c = λ _. left_none c.args.pieces.now c.args.at.now c.args.within.now (search rules)

pub returns-then-count-rest-clause-place : goal.returns-then-count-rest-clause-place
returns-then-count-rest-clause-place c = place_at c.args.pieces.now (c.args.at.now + 1) c.requires.filled

pub returns-then-count-rest-clause-bytes : goal.returns-then-count-rest-clause-bytes
returns-then-count-rest-clause-bytes c =
    let piece = c.in-Some.piece.now in
    let inside = inside_of c.args.pieces.now c.args.at.now c.args.within.now piece c.in-Some.ensures.piece c.requires.place in
    c.copy_front-count.ensures.front
    ∙ bytes_of c.args.pieces.now c.args.at.now c.args.within.now c.copy_front-count.result piece c.in-Some.ensures.piece (omega arith)
    (omega (arith, length-drop c.args.within.now piece, length-take {A = ℕ}))

pub returns-then-count-rest-clause-taken : goal.returns-then-count-rest-clause-taken
returns-then-count-rest-clause-taken c =
    let piece = c.in-Some.piece.now in
    let inside = inside_of c.args.pieces.now c.args.at.now c.args.within.now piece c.in-Some.ensures.piece c.requires.place in
    taken_next c.args.pieces.now c.args.at.now c.args.within.now c.copy_front-count.result piece c.in-Some.ensures.piece
    (whole_of piece c.args.within.now c.copy_front-count.result inside c.if-count-rest.true)

pub returns-then-count-rest-clause-left : goal.returns-then-count-rest-clause-left
returns-then-count-rest-clause-left c =
    let piece = c.in-Some.piece.now in
    let inside = inside_of c.args.pieces.now c.args.at.now c.args.within.now piece c.in-Some.ensures.piece c.requires.place in
    left_next c.args.pieces.now c.args.at.now c.args.within.now c.copy_front-count.result piece c.in-Some.ensures.piece
    (whole_of piece c.args.within.now c.copy_front-count.result inside c.if-count-rest.true)

pub returns-else-count-rest-clause-bytes : goal.returns-else-count-rest-clause-bytes
returns-else-count-rest-clause-bytes c =
    let piece = c.in-Some.piece.now in
    let inside = inside_of c.args.pieces.now c.args.at.now c.args.within.now piece c.in-Some.ensures.piece c.requires.place in
    c.copy_front-count.ensures.front
    ∙ bytes_of c.args.pieces.now c.args.at.now c.args.within.now c.copy_front-count.result piece c.in-Some.ensures.piece (omega arith)
    (omega (arith, length-drop c.args.within.now piece, length-take {A = ℕ}))

pub returns-else-count-rest-clause-taken : goal.returns-else-count-rest-clause-taken
returns-else-count-rest-clause-taken c = taken_on c.args.pieces.now c.args.at.now c.args.within.now c.copy_front-count.result
