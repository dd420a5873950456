use Rattle.std.proofs.Common.{◌∙◌, List, ℕ, true, false, ap, get_or, subst, sym, take}
use Rattle.depth_pool.specs.declared.runs.RunId.{RunId}
use Rattle.depth_pool.specs.Holdings.{pool_docs}
use Rattle.assessment.specs.Fronts.{AreDone, HasFronts, Own}
use Rattle.assessment.proofs.FrontSteps.{front-put}
use Rattle.assessment.proofs.fronts.advance.Goals as goal

pub loop-run-init : goal.loop-run-init
loop-run-init g c =
    let l = c.args.labelled in
    subst (λ (own : Own). HasFronts l.need l.marks.now.marked own.assessor l.pool.now.runs own.fronts) (sym c.own.view_is) c.requires

pub front_from-front-requires : goal.front_from-front-requires
front_from-front-requires g c =
    let none : RunId = record { 0 = 0 } in
    let run = get_or c.args.order.now c.loop-run.run-index none in
    let need = c.args.labelled.need in
    let marked = c.args.labelled.marks.now.marked in
    let docs = pool_docs c.args.labelled.pool.now.runs run in
    subst (λ (name : List ℕ). AreDone need marked name (take c.front_of-from.result docs)) (sym c.bytes.ensures)
    (subst (λ (n : ℕ). AreDone need marked c.loop-run.own-inside.assessor (take n docs))
    (sym (c.front_of-from.ensures ∙ ap (λ (list : List ℕ). get_or list run.0 0) c.as_slice.ensures.value)) (c.loop-run.invariant run))

pub loop-run-preserved : goal.loop-run-preserved
loop-run-preserved g c =
    let none : RunId = record { 0 = 0 } in
    let run = get_or c.args.order.now c.loop-run.run-index none in
    let need = c.args.labelled.need in
    let marked = c.args.labelled.marks.now.marked in
    let runs = c.args.labelled.pool.now.runs in
    let own = c.loop-run.own-inside in
    front-put need marked own.assessor runs own.fronts.items c.put.new.fronts.items run c.front_from-front.result c.loop-run.invariant
    (subst (λ (name : List ℕ). AreDone need marked name (take c.front_from-front.result (pool_docs runs run))) c.bytes.ensures c.front_from-front.ensures)
    true c.in_ok-put.ensures.here c.in_ok-put.ensures.others

pub returns-then-front-count_of : goal.returns-then-front-count_of
returns-then-front-count_of g c =
    let none : RunId = record { 0 = 0 } in
    let run = get_or c.args.order.now c.loop-run.run-index none in
    let need = c.args.labelled.need in
    let marked = c.args.labelled.marks.now.marked in
    let runs = c.args.labelled.pool.now.runs in
    let own = c.loop-run.own-inside in
    front-put need marked own.assessor runs own.fronts.items c.put.new.fronts.items run c.front_from-front.result c.loop-run.invariant
    (subst (λ (name : List ℕ). AreDone need marked name (take c.front_from-front.result (pool_docs runs run))) c.bytes.ensures c.front_from-front.ensures)
    true c.in_ok-put.ensures.here c.in_ok-put.ensures.others

pub returns-in_err-put : goal.returns-in_err-put
returns-in_err-put g c =
    let none : RunId = record { 0 = 0 } in
    let run = get_or c.args.order.now c.loop-run.run-index none in
    let need = c.args.labelled.need in
    let marked = c.args.labelled.marks.now.marked in
    let runs = c.args.labelled.pool.now.runs in
    let own = c.loop-run.own-inside in
    front-put need marked own.assessor runs own.fronts.items c.put.new.fronts.items run c.front_from-front.result c.loop-run.invariant
    (subst (λ (name : List ℕ). AreDone need marked name (take c.front_from-front.result (pool_docs runs run))) c.bytes.ensures c.front_from-front.ensures)
    false c.in_err-put.ensures.here c.in_err-put.ensures.others
