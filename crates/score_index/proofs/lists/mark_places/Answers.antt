use Rattle.std.proofs.Common.{◌≡◌, ◌∙◌, ◌+◌, ◌-◌, ◌<◌, ap, arith, get_or, length}
use Rattle.std.proofs.lemmas.Option.{get_or_from_slice_get}
use Rattle.decimal_rank.specs.declared.naming.DocId.{DocId}
use Rattle.qrels_view.specs.Grades.{effective_in, is_non_relevant, is_relevant}
use Rattle.score_index.proofs.GradeChanges.MarkedPlaces.{all_marked, none_marked, one_marked}
use Rattle.score_index.proofs.lists.mark_places.Goals as goal

pub loop-place-init : goal.loop-place-init
loop-place-init g c = record {
  relevant = none_marked (λ (doc : DocId). is_relevant c.args.level (effective_in c.args.view.now.graded doc)) c.args.ranking.now c.args.trees.now.relevant
      (length c.args.trees.now.relevant) c.requires.room.no_relevant c.requires.as_many;
  lower = none_marked (λ (doc : DocId). is_non_relevant c.args.level (effective_in c.args.view.now.graded doc)) c.args.ranking.now c.args.trees.now.lower
      (length c.args.trees.now.relevant) c.requires.room.no_lower (c.len.ensures.long ∙ c.requires.as_many);
  sums_are = c.no_sums-sums.ensures c.args.cap c.args.trees.now c.requires.room c.len.ensures.few;
}

pub loop-place-preserved : goal.loop-place-preserved
loop-place-preserved g c =
    let i = c.loop-place.place in
    let doc = c.doc_at-doc.result in
    let graded = c.args.view.now.graded in
    let within : i < length c.args.ranking.now = omega (arith, c.loop-place-test.true, c.len-place-end.ensures.len) in
    let back : i + 1 - 1 ≡ i = omega arith in
    let here : get_or c.args.ranking.now i doc ≡ doc = get_or_from_slice_get c.args.ranking.now i doc doc (rw back at c.doc_at-doc.ensures.doc) in
    record {
      relevant = one_marked (λ (d : DocId). is_relevant c.args.level (effective_in graded d)) c.args.ranking.now
          c.loop-place.trees.relevant c.put_mark-sums.new.trees.relevant i doc _ c.loop-place.invariant.relevant within here
          (c.mark_of-mark.ensures.relevant ∙ ap (is_relevant c.args.level) c.effective.ensures) c.put_mark-sums.ensures.relevant;
      lower = one_marked (λ (d : DocId). is_non_relevant c.args.level (effective_in graded d)) c.args.ranking.now
          c.loop-place.trees.lower c.put_mark-sums.new.trees.lower i doc _ c.loop-place.invariant.lower within here
          (c.mark_of-mark.ensures.lower ∙ ap (is_non_relevant c.args.level) c.effective.ensures) c.put_mark-sums.ensures.lower;
      sums_are = c.put_mark-sums.ensures.sums;
    }

pub returns-clause-relevant : goal.returns-clause-relevant
returns-clause-relevant g c =
    all_marked (λ (doc : DocId). is_relevant c.args.level (effective_in c.args.view.now.graded doc))
    c.args.ranking.now c.loop-place.trees.relevant c.loop-place.place
    (omega (arith, c.loop-place-test.false, c.len-place-end.ensures.len)) c.loop-place.invariant.relevant

pub returns-clause-lower : goal.returns-clause-lower
returns-clause-lower g c =
    all_marked (λ (doc : DocId). is_non_relevant c.args.level (effective_in c.args.view.now.graded doc))
    c.args.ranking.now c.loop-place.trees.lower c.loop-place.place
    (omega (arith, c.loop-place-test.false, c.len-place-end.ensures.len)) c.loop-place.invariant.lower
