use Rattle.std.proofs.Common.{subst, sym}
use Rattle.std.specs.List.{All}
use Rattle.std.proofs.lemmas.List.Elements.{All-push}
use Rattle.assessment.specs.Fronts.{HasFronts, Own}
use Rattle.assessment.proofs.fronts.Fronts.lead_on.Goals as goal

pub returns : goal.returns
returns g c =
    let need = c.args.labelled.need in
    let marked = c.args.labelled.marks.now.marked in
    let runs = c.args.labelled.pool.now.runs in
    let P : Own → Type 0 = λ own. HasFronts need marked own.assessor runs own.fronts in
    let rest : All P c.self.inside.all.items = subst (All P) (sym c.self.view_is) (c.in_ok-own.ensures.rest need marked runs c.requires.fronts) in
    subst (All P) (sym c.in_ok-push.ensures.items) (All-push P c.self.inside.all.items _ rest c.advance.ensures)
