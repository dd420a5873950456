use Rattle.std.proofs.Common.{◌<◌, ◌∙◌, ◌∷◌, ◌++◌, [], ap, arith, length, sym, map, take}
use Rattle.std.proofs.lemmas.List.{take_all, take_more, map-append}
use Rattle.std.proofs.lemmas.Option.{get_or_from_slice_get}
use Rattle.trec_formats.specs.RunFormat.LineViews.{qrel_shown}
use Rattle.trec_formats.specs.QrelsFormat.Qrels.{grade_on}
use Rattle.trec_formats.proofs.qrels.qrel_tables.grades_of.Goals as goal

pub loop-place-preserved : goal.loop-place-preserved
loop-place-preserved c =
    let grade = grade_on (map qrel_shown c.args.lines.now) c.args.topic.now in
    let docs = c.args.docs.now in
    let place = c.loop-place.place in
    let before = take place docs in
    let doc = c.at.result.now in
    let within : place < length docs = omega (arith, c.loop-place-test.true, c.len-count.ensures) in
    c.in_ok-push.ensures.items
    ∙ ap (λ items. items ++ c.grade_of.result ∷ []) c.loop-place.invariant
    ∙ ap (λ g. map grade before ++ g ∷ []) c.grade_of.ensures
    ∙ sym (map-append grade before (doc ∷ []))
    ∙ ap (map grade) (sym (take_more docs place doc within ∙ ap (λ d. before ++ d ∷ []) (get_or_from_slice_get docs place doc doc c.at.ensures)))

pub returns : goal.returns
returns c =
    c.loop-place.invariant
    ∙ ap (map (grade_on (map qrel_shown c.args.lines.now) c.args.topic.now))
    (take_all c.loop-place.place c.args.docs.now (omega (arith, c.loop-place-test.false, c.len-count.ensures)))
