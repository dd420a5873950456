use Rattle.std.proofs.Common.{◌≡◌, ◌∙◌, ◌<◌, length, get_or, ap, arith}
use Rattle.std.proofs.lemmas.List.{get_or-map}
use Rattle.decimal_rank.specs.declared.naming.DocId.{DocId}
use Rattle.qrels_view.specs.declared.grades.Graded.{Graded}
use Rattle.judging_tests.proofs.graded_views.are_named.Goals as goal

pub returns : goal.returns
returns c = λ k d h.
    let none : DocId = record { 0 = 0 } in
    let graded = c.args.view.now.graded in
    let at : get_or c.trail-doc-items.result.now k none ≡ (get_or graded k d).doc =
    ap (λ docs. get_or docs k none) c.trail-doc-items.ensures.docs ∙ get_or-map (λ (one : Graded). one.doc) graded k d none h in
    let below : k < length c.trail-doc-items.result.now = omega (arith, c.trail-doc-items.ensures.len) in
    let low = c.loop-doc.invariant k (omega arith) in
    let number = ap (λ (doc : DocId). doc.0) at in
    let len = c.len-len.ensures.len in
    omega arith
