use Rattle.std.proofs.Common.{◌≡◌, ◌<◌, [], ◌∷◌, ◌++◌, ◌∙◌, List, Some, ap, arith, length, subst, sym, take}
use Rattle.std.proofs.lemmas.List.{take_more}
use Rattle.std.proofs.lemmas.Option.{get_or_from_slice_get}
use Rattle.decimal_rank.specs.Names.{number_of, with_name}
use Rattle.rulebook.specs.Words.{Text}
use Rattle.campaign_core.specs.Growth.{BeginsWith}
use Rattle.campaign_core.specs.Numbering.Numbers.{AreAdded}
use Rattle.campaign_core.proofs.Numbers.AddedDocs.{added-all, added-one, begins-added, begins-later, length-added}
use Rattle.campaign_core.proofs.campaign.docnos.add_all.Goals as goal

pub loop-place-preserved : goal.loop-place-preserved
loop-place-preserved c =
    let i = c.loop-place.place in
    let doc = c.at.result.now in
    let docs = c.args.docs.now in
    let within : i < length docs = omega (arith, c.loop-place-test.true, c.len-count.ensures) in
    let was = c.loop-place.docnos in
    let now = c.add.new.self in
    let name_is : c.in_ok-docno.docno ≡ doc = c.in_ok-docno.ensures.text in
    let now_is : now ≡ with_name was doc = c.in_ok-add.ensures.added ∙ ap (λ (name : Text). with_name was name) name_is in
    let number_is : number_of now doc ≡ Some c.in_ok-add.field-0.0 = ap (λ (name : Text). number_of now name) (sym name_is) ∙ c.in_ok-add.ensures.number in
    let one = added-one was now doc c.in_ok-add.field-0 c.loop-place.numbers.items now_is number_is in
    let grown = subst (λ (later : List Text). BeginsWith was later) (sym now_is) (begins-added was doc) in
    let all = added-all (take i docs)
    (doc ∷ []) c.args.docnos.now was now c.args.numbers.now.items c.loop-place.numbers.items c.push.new.self.items c.loop-place.invariant.0 grown
    (subst (λ after. AreAdded (doc ∷ []) was now c.loop-place.numbers.items after) (sym c.in_ok-push.ensures.items) one) in (
      subst (λ (ds : List Text). AreAdded ds c.args.docnos.now now c.args.numbers.now.items c.push.new.self.items)
          (sym (take_more docs i doc within ∙ ap (λ (d : Text). take i docs ++ d ∷ []) (get_or_from_slice_get docs i doc doc c.at.ensures))) all,
      begins-later c.args.docnos.now was now c.loop-place.invariant.1 grown,
      omega (arith, ap (λ (later : List Text). length later) now_is, length-added was doc, c.loop-place.invariant.2),
    )
