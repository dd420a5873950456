use Rattle.std.proofs.Common.{◌≡◌, ℕ, ◌+◌, [], ◌∷◌, ◌++◌, ◌∙◌, List, ap, arith, length, refl, subst, sym, take, take_all}
use Rattle.std.proofs.lemmas.Grind.{flat_map-append}
use Rattle.std.proofs.lemmas.List.{append-nil, take_more}
use Rattle.std.proofs.lemmas.List.Sums.{sum_by-take-drop, sum_by_more}
use Rattle.trec_formats.specs.declared.TopicList.{TopicList}
use Rattle.rulebook.specs.Campaign.{docnos}
use Rattle.rulebook.specs.Words.{Text}
use Rattle.campaign_core.specs.Numbering.Numbers.{AreAdded}
use Rattle.campaign_core.proofs.Numbers.AddedDocs.{added-all, begins-later}
use Rattle.campaign_core.proofs.campaign.docnos.add_docnos.Goals as goal

pub loop-list-init : goal.loop-list-init
loop-list-init c =
    (record { names_are = refl; numbers_are = c.new-numbers.ensures.items }, take_all (length c.args.docnos.now) c.args.docnos.now (omega arith), omega arith)

pub add_all-requires : goal.add_all-requires
add_all-requires c =
    let i = c.loop-list.list-index in
    let lists = c.args.lists.now in
    let list = c.list-item.result in
    let lines : TopicList → ℕ = λ l. length l.docs in
    omega (
      arith,
      c.requires,
      c.loop-list.invariant.2,
      sum_by-take-drop lines lists i,
      sum_by-take-drop lines lists (i + 1),
      sum_by_more lines lists i list c.loop-list-test.true,
      ap lines c.list-item.is,
    )

pub loop-list-preserved : goal.loop-list-preserved
loop-list-preserved c =
    let i = c.loop-list.list-index in
    let list = c.list-item.result in
    let lists = c.args.lists.now in
    let was = c.loop-list.docnos in
    let now = c.add_all.new.docnos in
    let numbers = c.add_all.new.numbers.items in
    let grown = c.add_all.ensures.grown in
    let all = added-all (docnos (take i lists)) list.docs c.args.docnos.now was now [] c.loop-list.numbers.items
    numbers c.loop-list.invariant.0 grown.grown c.in_ok-add_all.ensures.added in
    let docs_are : docnos (take (i + 1) lists) ≡ docnos (take i lists) ++ list.docs =
    ap docnos (take_more lists i list c.loop-list-test.true ∙ ap (λ (l : TopicList). take i lists ++ l ∷ []) (sym c.list-item.is))
    ∙ flat_map-append (λ (l : TopicList). l.docs) (take i lists) (list ∷ []) ∙ ap (λ docs. docnos (take i lists) ++ docs) (append-nil list.docs) in
    let lines : TopicList → ℕ = λ l. length l.docs in
    let more = sum_by_more lines lists i list c.loop-list-test.true in
    let same = ap lines c.list-item.is in (
      subst (λ (docs : List Text). AreAdded docs c.args.docnos.now now [] numbers) (sym docs_are) all,
      begins-later c.args.docnos.now was now c.loop-list.invariant.1 grown.grown,
      omega (arith, sum_by-take-drop lines lists i, sum_by-take-drop lines lists (i + 1), more, same, grown.bound, c.loop-list.invariant.2),
    )
