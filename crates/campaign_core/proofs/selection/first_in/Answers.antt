use Rattle.std.proofs.Common.{ℕ, get_or, sym, subst, take}
use Rattle.depth_pool.specs.Holdings.{pool_docs}
use Rattle.depth_pool.specs.declared.runs.RunId.{RunId}
use Rattle.assessment.specs.Fronts.{AreDone}
use Rattle.campaign_core.proofs.selection.first_in.Goals as goal

pub open_from-open-requires : goal.open_from-open-requires
open_from-open-requires g c =
    let none : RunId = record { 0 = 0 } in
    let run = get_or c.args.order.now c.loop-run.run-index none in
    let topic = c.args.asker.now.topic.now.facts in
    subst (λ (front : ℕ). AreDone topic.need topic.marked c.args.asker.now.assessor.now (take front (pool_docs topic.pool run)))
    (sym c.front_of-front.ensures) (c.fronts_of-fronts.ensures run)
