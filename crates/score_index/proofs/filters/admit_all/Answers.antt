use Rattle.std.proofs.Common.{◌≡◌, ◌+◌, ◌-◌, ◌<◌, arith, get_or, length}
use Rattle.std.proofs.lemmas.Option.{get_or_from_slice_get}
use Rattle.score_index.proofs.Admissions.{one-more}
use Rattle.score_index.proofs.filters.admit_all.Goals as goal

pub loop-place-init : goal.loop-place-init
loop-place-init g c = record { admitted = λ k d before within. absurd (omega (arith, before)) }

pub loop-place-preserved : goal.loop-place-preserved
loop-place-preserved g c =
    let i = c.loop-place.place in
    let doc = c.doc_at-doc.result in
    let docs = c.args.ranking.now in
    let within : i < length docs = omega (arith, c.loop-place-test.true, c.len-place-end.ensures.len) in
    let back : i + 1 - 1 ≡ i = omega arith in
    let here : get_or docs i doc ≡ doc = get_or_from_slice_get docs i doc doc (rw back at c.doc_at-doc.ensures.doc) in
    record {
      admitted = one-more c.loop-place.filter c.admit.new.self docs i doc c.loop-place.invariant.admitted
          within here c.admit.ensures.admitted c.admit.ensures.others;
    }

pub returns : goal.returns
returns g c = λ k d within. c.loop-place.invariant.admitted k d (omega (arith, within, c.loop-place-test.false, c.len-place-end.ensures.len)) within
