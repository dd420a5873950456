use Rattle.std.proofs.Common.{◌≡◌, ◌+◌, ◌<◌, ◌≤◌, ◌∙◌, Bool, List, Some, ap, arith, cond, drop, find, length, slice_get, sym}
use Rattle.std.proofs.lemmas.List.{drop_all}
use Rattle.decimal_rank.specs.declared.naming.DocId.{DocId}
use Rattle.depth_pool.specs.Holdings.{Held, pool_docs}
use Rattle.campaign_core.specs.Assessments.DeskLeases.{is_open_in}
use Rattle.campaign_core.proofs.NamedDocuments.OpenDocs.{done-closed, find-behind, find-more}
use Rattle.campaign_core.proofs.selection.open_from.Goals.{After-is_open}
use Rattle.campaign_core.proofs.selection.open_from.Given.{Over}
use Rattle.campaign_core.proofs.selection.open_from.Goals as goal

-- what is found from this document on
here : (g : Over) (c : After-is_open g) → let topic = c.args.asker.now.topic.now.facts in
    let is_open =
    is_open_in topic.need topic.marked c.args.asker.now.desk.now.leases c.args.asker.now.number c.args.asker.now.moment c.args.asker.now.assessor.now in
    let docs = pool_docs topic.pool c.args.run in
    find is_open (drop c.loop-place.place docs) ≡ cond c.is_open.result (Some c.doc_at-doc.result) (find is_open (drop (c.loop-place.place + 1) docs))
here g c =
    let topic = c.args.asker.now.topic.now.facts in
    let is_open =
    is_open_in topic.need topic.marked c.args.asker.now.desk.now.leases c.args.asker.now.number c.args.asker.now.moment c.args.asker.now.assessor.now in
    let docs = pool_docs topic.pool c.args.run in
    let place = c.loop-place.place in
    let doc = c.doc_at-doc.result in
    let docs_is : pool_docs c.pool-pool.result.now.runs c.args.run ≡ docs = ap (λ (runs : List Held). pool_docs runs c.args.run) c.pool-pool.ensures.runs in
    let within : place < length docs = omega (arith, c.count_of-place-end.ensures, c.loop-place-test.true, ap length docs_is) in
    find-more is_open docs place doc within (sym (ap (λ (list : List DocId). slice_get list place) docs_is) ∙ c.doc_at-doc.ensures.doc)
    ∙ ap (λ (t : Bool). cond t (Some doc) (find is_open (drop (place + 1) docs))) (sym c.is_open.ensures)

pub loop-place-init : goal.loop-place-init
loop-place-init g c =
    let topic = c.args.asker.now.topic.now.facts in
    find-behind _ topic.need topic.marked c.args.asker.now.assessor.now c.args.front (pool_docs topic.pool c.args.run)
    (done-closed topic.need topic.marked c.args.asker.now.desk.now.leases c.args.asker.now.number c.args.asker.now.moment c.args.asker.now.assessor.now)
    c.requires

pub loop-place-preserved : goal.loop-place-preserved
loop-place-preserved g c =
    let topic = c.args.asker.now.topic.now.facts in
    let is_open =
    is_open_in topic.need topic.marked c.args.asker.now.desk.now.leases c.args.asker.now.number c.args.asker.now.moment c.args.asker.now.assessor.now in
    let later = find is_open (drop (c.loop-place.place + 1) (pool_docs topic.pool c.args.run)) in
    sym (here g (goal.at.loop-place-preserved g c).After-is_open ∙ ap (λ (t : Bool). cond t (Some c.doc_at-doc.result) later) c.if-is_open.false)
    ∙ c.loop-place.invariant

pub returns-then-is_open : goal.returns-then-is_open
returns-then-is_open g c =
    let topic = c.args.asker.now.topic.now.facts in
    let is_open =
    is_open_in topic.need topic.marked c.args.asker.now.desk.now.leases c.args.asker.now.number c.args.asker.now.moment c.args.asker.now.assessor.now in
    let later = find is_open (drop (c.loop-place.place + 1) (pool_docs topic.pool c.args.run)) in
    sym (here g (goal.at.returns-then-is_open g c).After-is_open ∙ ap (λ (t : Bool). cond t (Some c.doc_at-doc.result) later) c.if-is_open.true)
    ∙ c.loop-place.invariant

pub returns : goal.returns
returns g c =
    let topic = c.args.asker.now.topic.now.facts in
    let is_open =
    is_open_in topic.need topic.marked c.args.asker.now.desk.now.leases c.args.asker.now.number c.args.asker.now.moment c.args.asker.now.assessor.now in
    let docs = pool_docs topic.pool c.args.run in
    let docs_is : pool_docs c.pool-pool.result.now.runs c.args.run ≡ docs = ap (λ (runs : List Held). pool_docs runs c.args.run) c.pool-pool.ensures.runs in
    let past : length docs ≤ c.loop-place.place = omega (arith, c.count_of-place-end.ensures, c.loop-place-test.false, ap length docs_is) in
    sym (ap (find is_open) (drop_all c.loop-place.place docs past)) ∙ c.loop-place.invariant
