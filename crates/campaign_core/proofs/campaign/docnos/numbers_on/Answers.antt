use Rattle.std.proofs.Common.{◌≡◌, ◌+◌, ◌-◌, ◌∷◌, ◌++◌, ◌∙◌, suc, true, ap, arith, drop, length, sym, take}
use Rattle.std.specs.Str.{bytes_eq}
use Rattle.std.proofs.Math.Seq.{drop-cons}
use Rattle.std.proofs.lemmas.List.{take-append-drop}
use Rattle.trec_formats.specs.declared.TopicList.{TopicList}
use Rattle.rulebook.specs.Campaign.{docnos, docs_on}
use Rattle.rulebook.specs.Words.{Text}
use Rattle.campaign_core.specs.Numbering.Numbers.{docs_in}
use Rattle.campaign_core.proofs.Numbers.AddedDocs.{docs-first, numbers-within}
use Rattle.campaign_core.proofs.campaign.docnos.numbers_on.Goals as goal

pub returns-then-eq : goal.returns-then-eq
returns-then-eq c = λ names are.
    let i = c.loop-list.list-index in
    let start = c.loop-list.start in
    let list = c.list-item.result in
    let lists = c.args.lists.now in
    let numbers = c.args.numbers.now in
    let rest : drop i lists ≡ list ∷ drop (suc i) lists =
    drop-cons lists i list c.loop-list-test.true ∙ ap (λ (l : TopicList). l ∷ drop (suc i) lists) (sym c.list-item.is) in
    let cut : lists ≡ take i lists ++ list ∷ drop (suc i) lists = sym (take-append-drop i lists) ∙ ap (λ ls. take i lists ++ ls) rest in
    let count : start + c.len.result - start ≡ length list.docs = omega (arith, c.len.ensures) in
    let is : bytes_eq list.topic c.args.topic.now ≡ true =
    ap (λ (id : Text). bytes_eq id c.args.topic.now) (sym c.bytes.ensures) ∙ sym c.eq.ensures ∙ c.if-eq.true in
    let here : docs_on lists c.args.topic.now ≡ list.docs =
    sym c.loop-list.invariant.0 ∙ ap (λ ls. docs_on ls c.args.topic.now) rest ∙ docs-first list (drop (suc i) lists) c.args.topic.now is in
    ap (λ n. take n (drop start numbers)) count
    ∙ ap (λ n. take (length list.docs) (drop n numbers)) c.loop-list.invariant.1
    ∙ numbers-within names (take i lists) (drop (suc i) lists) list numbers (are ∙ ap (λ ls. docs_in names (docnos ls)) cut)
    ∙ ap (docs_in names) (sym here)
