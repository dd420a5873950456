use Rattle.std.proofs.Common.{◌<◌, ◌∙◌, ◌∷◌, ◌++◌, [], ap, arith, length, sym, take}
use Rattle.std.proofs.lemmas.List.{map-append, take_all, take_more}
use Rattle.std.proofs.lemmas.Option.{get_or_from_slice_get}
use denote.Ref.{Bor}
use Rattle.rulebook.specs.Words.{Text}
use Rattle.record_codec.proofs.DistinctTexts.{shown}
use Rattle.record_codec.proofs.entries.text_orders.lent_docnos.Goals as goal

pub loop-place-preserved : goal.loop-place-preserved
loop-place-preserved c =
    let docs = c.args.docs.now in
    let place = c.loop-place.place in
    let text = c.at.result.now in
    let within : place < length docs = omega (arith, c.loop-place-test.true, c.len-count.ensures) in
    ap shown c.in_ok-push.ensures.items
    ∙ map-append (λ (lent : Bor Text). lent.now) c.loop-place.lent.items (c.at.result ∷ [])
    ∙ ap (λ texts. texts ++ text ∷ []) c.loop-place.invariant
    ∙ sym (take_more docs place text within ∙ ap (λ d. take place docs ++ d ∷ []) (get_or_from_slice_get docs place text text c.at.ensures))

pub returns : goal.returns
returns c = c.loop-place.invariant ∙ take_all c.loop-place.place c.args.docs.now (omega (arith, c.loop-place-test.false, c.len-count.ensures))
