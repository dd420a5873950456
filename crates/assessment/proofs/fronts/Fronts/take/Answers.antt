use Rattle.std.proofs.Common.{◌<◌, arith, length, subst, sym}
use Rattle.assessment.specs.Fronts.{AreFronts}
use Rattle.assessment.proofs.FrontSteps.{fronts-taken, no-fronts, place-within}
use Rattle.assessment.proofs.fronts.Fronts.take.Goals as goal

pub swap_remove-requires : goal.swap_remove-requires
swap_remove-requires c =
    omega (
      arith,
      place-within c.self.inside.all.items c.as_slice.result.now c.args.name.now c.place_of.result c.in-Some.place
          c.place_of.ensures c.as_slice.ensures.value c.in-Some.is,
      c.self.inside.all.ok.0,
    )

pub returns-in-Some-clause-rest : goal.returns-in-Some-clause-rest
returns-in-Some-clause-rest c = λ need marked runs were.
    let all = c.self.inside.all.items in
    let place = c.in-Some.place in
    let within : place < length all =
    place-within all c.as_slice.result.now c.args.name.now c.place_of.result place c.place_of.ensures c.as_slice.ensures.value c.in-Some.is in
    subst (AreFronts need marked runs) (sym c.swap_remove.ensures.items)
    (fronts-taken need marked runs all place c.swap_remove.result within c.swap_remove.ensures.value
    (subst (AreFronts need marked runs) (sym c.self.view_is) were)).1

pub returns-in-Some-clause-own : goal.returns-in-Some-clause-own
returns-in-Some-clause-own c = λ need marked runs were.
    let all = c.self.inside.all.items in
    let place = c.in-Some.place in
    let within : place < length all =
    place-within all c.as_slice.result.now c.args.name.now c.place_of.result place c.place_of.ensures c.as_slice.ensures.value c.in-Some.is in
    (fronts-taken need marked runs all place c.swap_remove.result within c.swap_remove.ensures.value
    (subst (AreFronts need marked runs) (sym c.self.view_is) were)).0

pub returns-clause-own : goal.returns-clause-own
returns-clause-own c = λ need marked runs were. no-fronts need marked c.in_ok-assessor.assessor runs c.new.result.items c.new.ensures.items
