use Rattle.std.proofs.Common.{List, Bool, ap, arith, sym, zero-add}
use Rattle.std.proofs.lemmas.List.{take_all}
use Rattle.rank_trees.specs.PlacesOn.{count_on}
use Rattle.rank_trees.proofs.Counts.{nth-here, nth-left, nth-more}
use Rattle.rank_trees.proofs.count_trees.nth_on.Goals as goal

pub loop-place-init : goal.loop-place-init
loop-place-init c = λ on is. (sym is, zero-add c.args.number)

pub returns-then-bit-rest-clause-place : goal.returns-then-bit-rest-clause-place
returns-then-bit-rest-clause-place c = λ on is short some.
    let at = c.loop-place.invariant on is in
    nth-here on c.args.number c.loop-place.place c.loop-place.bits c.loop-place.rest at.0 at.1 _ (omega arith) c.if-bit-rest.true

pub loop-place-preserved : goal.loop-place-preserved
loop-place-preserved c = λ on is.
    let at = c.loop-place.invariant on is in (
      nth-left on c.args.number c.loop-place.place c.loop-place.bits c.loop-place.rest at.0 at.1,
      nth-more on c.args.number c.loop-place.place c.loop-place.bits c.loop-place.rest at.0 at.1 _ (omega arith) c.if-bit-rest.false,
    )

pub returns-clause-place : goal.returns-clause-place
returns-clause-place c = λ on is short some.
    let at = c.loop-place.invariant on is in
    let all = ap (λ (xs : List Bool). count_on xs) (take_all c.loop-place.place on (omega (arith, short))) in
    absurd (omega (arith, at.1, all, some))
