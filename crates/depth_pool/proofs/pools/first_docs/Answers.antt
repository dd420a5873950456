use Rattle.std.proofs.Common.{◌≡◌, ◌≢◌, ◌<◌, ◌+◌, ◌-◌, ◌++◌, ◌∷◌, [], ◌∙◌, ap, sym, subst, arith, length, get_or, take}
use Rattle.std.proofs.lemmas.List.{take_more}
use Rattle.std.proofs.lemmas.Option.{get_or_from_slice_get}
use Rattle.decimal_rank.specs.Rankings.Places.{AreDistinct}
use Rattle.decimal_rank.specs.declared.naming.DocId.{DocId}
use Rattle.depth_pool.proofs.Lists.{pairs_take}
use Rattle.depth_pool.proofs.pools.first_docs.Goals as goal

pub loop-place-preserved : goal.loop-place-preserved
loop-place-preserved g c =
    let ranking = c.args.ranking.now in
    let i = c.loop-place.place in
    let doc = c.doc_at.result in
    let within : i < length ranking = omega (arith, c.loop-place-test.true, c.min-count.ensures, c.len.ensures.len) in
    let back : i + 1 - 1 ≡ i = omega arith in
    let there : get_or ranking i doc ≡ doc = get_or_from_slice_get ranking i doc doc (rw back at c.doc_at.ensures.doc) in
    c.in_ok-push.ensures.items ∙ ap (λ docs. docs ++ doc ∷ []) c.loop-place.invariant
    ∙ ap (λ d. take i ranking ++ d ∷ []) (sym there) ∙ sym (take_more ranking i doc within)

pub returns-clause-distinct : goal.returns-clause-distinct
returns-clause-distinct g c =
    subst AreDistinct (sym c.loop-place.invariant) (pairs_take (λ (d e : DocId). d ≢ e) c.loop-place.place c.args.ranking.now c.len.ensures.distinct)
