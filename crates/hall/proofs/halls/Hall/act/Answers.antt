-- An act: each step, and what it comes to.
use Rattle.std.proofs.Common.{◌∷◌, ap, sym, subst, ◌∙◌, rules}
use Rattle.std.specs.Prelude.{Some}
use Rattle.atomic_table.specs.Table.{rest}
use Rattle.hall.specs.Stories.{AtMost}
use Rattle.hall.proofs.ActSteps.{acts_behind, brought_back, pass_behind, taken_out, turn_left}
use Rattle.hall.proofs.TurnSteps.{leaves}
use Rattle.hall.proofs.halls.Hall.act.Goals as goal

pub exchange-requires : goal.exchange-requires
exchange-requires g c =
    let turn = c.take_turn.ensures.turn in
    let held = ap (λ m. m.1) turn.1 in
    (search rules, (Some turn.0, held ∙ ap (λ l. (0, Some turn.0) ∷ rest l) (sym held)))

pub note-requires-clause-turn : goal.note-requires-clause-turn
note-requires-clause-turn g c =
    let turn = c.take_turn.ensures.turn in
    let out = taken_out g.B.Storied.story c.pass.inside.seat.me.0 turn.0 c.in-Some.value c.exchange.result c.take_turn.new.seat.me c.exchange.new.seat.me
    turn.1 c.exchange.ensures.2 c.exchange.ensures.3 c.in-Some.is in
    (g.B.Storied.story c.in-Some.value, ap (λ m. m.0.stage) out.1, c.act-answer.ensures.grows)

pub note-requires-clause-count : goal.note-requires-clause-count
note-requires-clause-count g c = c.length-count.ensures.count

pub store-requires : goal.store-requires
store-requires g c =
    let turn = c.take_turn.ensures.turn in
    let v = c.pass.inside.seat.me.0 in
    let back = brought_back g.B.Storied.story v turn.0 c.in-Some.value c.act-answer.new.self c.exchange.result
    c.take_turn.new.seat.me c.exchange.new.seat.me c.note.new.seat.me c.exchange-left.new.seat.me
    turn.1 c.exchange.ensures.2 c.exchange.ensures.3 c.in-Some.is c.note.ensures.noted c.exchange-left.ensures.3 in
    (search rules, search rules, leaves g.B.Storied.story _ _ c.exchange-left.new.seat.me c.act-answer.new.self _ c.self.invariant.1 back.1)

pub invariant_of-pass : goal.invariant_of-pass
invariant_of-pass g c =
    let turn = c.take_turn.ensures.turn in
    let v = c.pass.inside.seat.me.0 in
    let back = brought_back g.B.Storied.story v turn.0 c.in-Some.value c.act-answer.new.self c.exchange.result
    c.take_turn.new.seat.me c.exchange.new.seat.me c.note.new.seat.me c.exchange-left.new.seat.me
    turn.1 c.exchange.ensures.2 c.exchange.ensures.3 c.in-Some.is c.note.ensures.noted c.exchange-left.ensures.3 in
    pass_behind g.B.Storied.story v c.in-Some.value c.act-answer.new.self c.store.new.seat.me
    (turn_left g.B.Storied.story v c.in-Some.value c.act-answer.new.self c.exchange-left.new.seat.me c.store.new.seat.me back.1 c.store.ensures.2)
    (subst (λ b. AtMost v.seen (g.B.Storied.story b)) back.0 turn.2) c.act-answer.ensures.grows c.pass.invariant.2

pub returns-clause-acts : goal.returns-clause-acts
returns-clause-acts g c =
    let turn = c.take_turn.ensures.turn in
    let v = c.pass.inside.seat.me.0 in
    let back = brought_back g.B.Storied.story v turn.0 c.in-Some.value c.act-answer.new.self c.exchange.result
    c.take_turn.new.seat.me c.exchange.new.seat.me c.note.new.seat.me c.exchange-left.new.seat.me
    turn.1 c.exchange.ensures.2 c.exchange.ensures.3 c.in-Some.is c.note.ensures.noted c.exchange-left.ensures.3 in
    acts_behind g.B.Storied.story g.B.Storied.tells c.args.ask c.act-answer.result v c.args.pass.now.seen
    c.args.pass.now.mine c.in-Some.value c.act-answer.new.self c.store.new.seat.me
    (turn_left g.B.Storied.story v c.in-Some.value c.act-answer.new.self c.exchange-left.new.seat.me c.store.new.seat.me back.1 c.store.ensures.2)
    (ap (λ k. k.seen) c.pass.view_is) (ap (λ k. k.mine) c.pass.view_is)
    (subst (λ b. AtMost v.seen (g.B.Storied.story b)) back.0 turn.2) c.act-answer.ensures.grows c.act-answer.ensures.tells
