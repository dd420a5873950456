use Rattle.std.proofs.Common.{◌∙◌, ap, get_or, map, set}
use Rattle.std.proofs.lemmas.List.Edits.{map_over_more}
use Rattle.assessment.specs.Fronts.{Own, front_restarted}
use Rattle.assessment.proofs.FrontSteps.{all-changed}
use Rattle.assessment.proofs.fronts.Fronts.restart.Goals as goal

pub loop-own-preserved : goal.loop-own-preserved
loop-own-preserved c =
    let items = c.loop-own.own-items in
    let at = c.loop-own.own-index in
    let own : Own = get_or items at c.own-item.result in
    ap (set items at) c.restart.ensures
    ∙ map_over_more (front_restarted c.args.run) c.deref_mut-own-items.result.now items at own c.loop-own-test.true c.loop-own.invariant
    (ap (λ (one : Own). get_or items at one) c.own-item.is)

pub returns : goal.returns
returns c =
    all-changed (front_restarted c.args.run) c.deref_mut-own-items.result.now c.loop-own.own-items c.self.inside.all.items
    c.loop-own.own-index c.self.inside.all.len c.loop-own.invariant c.loop-own-test.false c.deref_mut-own-items.ensures.value
    c.self.inside.all.ok.0
    ∙ ap (map (front_restarted c.args.run)) c.self.view_is
