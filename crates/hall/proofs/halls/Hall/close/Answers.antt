-- The hall ends: the turn is kept for good, and the value is at home.
use Rattle.std.proofs.Common.{ap, sym, subst, ◌∙◌, rules}
use Rattle.hall.specs.Stories.{AtMost}
use Rattle.hall.proofs.ActSteps.{is_home, not_home}
use Rattle.hall.proofs.TurnSteps.{ended_home, ends}
use Rattle.hall.proofs.halls.Hall.close.Goals as goal

pub store-requires : goal.store-requires
store-requires g c =
    let turn = c.take_turn.ensures.turn in (
      search rules,
      search rules,
      ends g.B.Storied.story _ _ c.take_turn.new.seat.me turn.0 c.pass.inside.seat.me.0.seen c.pass.inside.seat.me.0.mine c.self.invariant.1 turn.1,
    )

pub unreachable-requires : goal.unreachable-requires
unreachable-requires g c =
    let home = ended_home g.B.Storied.story c.store.new.seat.id c.store.new.seat.me.0 _ _
    (ap (λ m. m.0.stage) c.store.ensures.2) c.close_with-closed.ensures.values.2 in
    not_home home.0 c.take.result (sym home.1 ∙ c.take.ensures.value) c.in_default.is

pub returns : goal.returns
returns g c =
    let home = ended_home g.B.Storied.story c.store.new.seat.id c.store.new.seat.me.0 _ _
    (ap (λ m. m.0.stage) c.store.ensures.2) c.close_with-closed.ensures.values.2 in
    let turn = c.take_turn.ensures.turn in
    let same = is_home home.0 c.in-Some.value c.take.result (sym home.1 ∙ c.take.ensures.value) c.in-Some.is in
    let seen = ap (λ m. m.0.seen) c.store.ensures.2 ∙ ap (λ m. m.0.seen) turn.1 ∙ ap (λ k. k.seen) c.pass.view_is in
    subst (λ s. AtMost s (g.B.Storied.story c.in-Some.value)) seen (subst (λ b. AtMost c.store.new.seat.me.0.seen (g.B.Storied.story b)) same home.2)
