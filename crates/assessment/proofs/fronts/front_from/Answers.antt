use Rattle.std.proofs.Common.{◌≡◌, ◌<◌, ◌∙◌, true, length, subst, sym, arith, ap, take_all}
use Rattle.std.proofs.lemmas.List.Elements.{All-more}
use Rattle.std.proofs.lemmas.Option.{get_or_from_slice_get}
use Rattle.decimal_rank.specs.declared.naming.DocId.{DocId}
use Rattle.depth_pool.specs.Holdings.{pool_docs}
use Rattle.assessment.specs.Fronts.{AreDone, is_done}
use Rattle.assessment.proofs.fronts.front_from.Goals as goal

pub loop-place-preserved : goal.loop-place-preserved
loop-place-preserved g c =
    let none : DocId = record { 0 = 0 } in
    let docs = pool_docs c.args.labelled.pool.now.runs c.args.run in
    let place = c.loop-place.place in
    let is_done_now = is_done c.args.labelled.need c.args.labelled.marks.now.marked c.args.assessor.now in
    let within : place < length docs = omega (arith, c.count_of-count.ensures, c.loop-place-test.true) in
    All-more (λ doc. is_done_now doc ≡ true) docs place none within c.loop-place.invariant
    (ap is_done_now (get_or_from_slice_get docs place c.doc_at-doc.result none c.doc_at-doc.ensures.doc) ∙ sym c.is_done.ensures ∙ c.if-not-is_done.false)

pub returns : goal.returns
returns g c =
    let docs = pool_docs c.args.labelled.pool.now.runs c.args.run in
    subst (AreDone c.args.labelled.need c.args.labelled.marks.now.marked c.args.assessor.now)
    (take_all c.loop-place.place docs (omega (arith, c.count_of-count.ensures, c.loop-place-test.false))
    ∙ sym (take_all c.count_of-count.result docs (omega (arith, c.count_of-count.ensures)))) c.loop-place.invariant
