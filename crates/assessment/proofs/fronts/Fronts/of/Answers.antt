use Rattle.std.proofs.Common.{◌≡◌, ◌∙◌, List, Some, ap, find, refl, subst, sym}
use Rattle.std.specs.Str.{bytes_eq}
use Rattle.assessment.specs.Fronts.{AreFronts, HasFronts, Own}
use Rattle.assessment.proofs.FrontSteps.{fronts-found, no-fronts}
use Rattle.assessment.proofs.fronts.Fronts.of.Goals as goal

pub returns-in-Some : goal.returns-in-Some
returns-in-Some c = λ marked runs were.
    let need = c.args.need in
    let assessor = c.args.assessor.now in
    let name = c.whose.result.now in
    let all = c.self.inside.all.items in
    let own : Own = c.in-Some.own.now in
    let is : find (λ (one : Own). bytes_eq one.assessor name) all ≡ Some own =
    sym (c.in-Some.ensures ∙ ap (λ (list : List Own). find (λ (one : Own). bytes_eq one.assessor name) list) c.as_slice.ensures.value) in
    subst (HasFronts need marked assessor runs) (sym (c.as_slice-in-Some.ensures.value ∙ ap (λ (one : Own). one.fronts) c.own.view_is))
    (fronts-found need marked assessor name runs all own is c.whose.ensures (subst (AreFronts need marked runs) (sym c.self.view_is) were))

pub returns-in-None : goal.returns-in-None
returns-in-None c = λ marked runs were. no-fronts c.args.need marked c.args.assessor.now runs _ refl
