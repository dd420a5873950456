-- Two passes are made one.
use Rattle.std.proofs.Common.{◌≡◌, ℕ, List, ap, subst, rules}
use Rattle.hall.specs.Places.{Apart, places_merged}
use Rattle.hall.proofs.SeatSteps.{after_join, joins, meets}
use Rattle.hall.proofs.halls.Hall.join.Goals as goal

pub join_seat-requires : goal.join_seat-requires
join_seat-requires g c = (search rules, search rules, search rules, search rules, joins g.B.Storied.story _ _ _ _ (search rules) (search rules))

pub load-requires : goal.load-requires
load-requires g c = (search rules, search rules, meets g.B.Storied.story _ _ c.join_seat.new.seat.me _ _ _ _ (ap (λ m. m.0.stage) c.join_seat.ensures.2))

pub invariant_of-pass : goal.invariant_of-pass
invariant_of-pass g c =
    (after_join g.B.Storied.story c.pass.inside.seat.me.0 c.other.inside.seat.me.0 _ c.join_seat.new.seat.me
    c.load.new.seat.me c.load.result c.join_seat.ensures.2
    c.pass.invariant.0 c.pass.invariant.2 c.other.invariant.2 c.load.ensures.2).0

pub returns-clause-mine : goal.returns-clause-mine
returns-clause-mine g c =
    let told = (after_join g.B.Storied.story c.pass.inside.seat.me.0 c.other.inside.seat.me.0 _
    c.join_seat.new.seat.me c.load.new.seat.me c.load.result c.join_seat.ensures.2
    c.pass.invariant.0 c.pass.invariant.2 c.other.invariant.2 c.load.ensures.2).1 in
    let mine : List ℕ = c.load.new.seat.me.0.mine in
    subst (λ (xs : List ℕ). Apart xs c.args.other.mine × (mine ≡ places_merged xs c.args.other.mine)) (ap (λ k. k.mine) c.pass.view_is)
    (subst (λ (ys : List ℕ). Apart c.pass.inside.seat.me.0.mine ys × (mine ≡ places_merged c.pass.inside.seat.me.0.mine ys))
    (ap (λ k. k.mine) c.other.view_is) told)
