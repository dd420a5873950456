use Rattle.std.proofs.Common.{◌≡◌, ◌++◌, ◌∙◌, List, map, ap, sym, take, take_all, length, ◌≤◌, rules, false}
use Rattle.std.specs.List.{flat_map}
use Rattle.std.specs.Prelude.{◌==◌}
use Rattle.std.proofs.lemmas.Bool.{ne_eqb}
use Rattle.std.proofs.lemmas.List.{append-nil}
use Rattle.std.proofs.lemmas.List.Folds.{flat_map-map}
use Rattle.labels.specs.LabelledDocuments.{LabelledDocument, disagrees_at}
use Rattle.decimal_rank.specs.Names.{docno_of}
use Rattle.rulebook.specs.Reports.Pages.{disagreement_line, disagreement_lines}
use Rattle.rulebook.specs.Words.{Text, in_order}
use Rattle.campaign_core.specs.Texts.{texts_behind}
use Rattle.campaign_core.proofs.PageTexts.Disagreements.{disagreeing-texts, no-lines}
use Rattle.campaign_core.proofs.pages.write_disagreements.Goals as goal

pub returns-then-need-ne2 : goal.returns-then-need-ne2
returns-then-need-ne2 c = λ H is.
    let topic = c.args.topic.now.facts in
    let before = c.args.out.now.items in
    let other : (topic.need == 2) ≡ false = ap (λ need. need == 2) (sym c.need-need.ensures) ∙ ne_eqb c.need-need.result 2 c.if-need-ne2.true in
    sym (ap (λ lines. before ++ lines) (no-lines H c.args.docnos.now topic is other) ∙ append-nil before)

pub returns : goal.returns
returns c = λ H is.
    let id = c.args.topic.now.facts.id in
    let names = c.args.docnos.now in
    let docs = c.in_ok-docs.docs.items in
    let line : Text → Text = disagreement_line id in
    let texts : texts_behind c.in_order.result.items ≡ in_order (map (λ doc. docno_of names doc.0) docs) =
    c.in_order.ensures ∙ ap in_order (c.in_ok-docnos_of.ensures ∙ ap (map (λ doc. docno_of names doc.0)) c.deref.ensures.value) in
    let lines : flat_map (λ docno. line docno.now) c.in_order.result.items ≡ disagreement_lines H id =
    sym (flat_map-map line (λ docno. docno.now) c.in_order.result.items)
    ∙ ap (flat_map line)
    (texts ∙ disagreeing-texts H names c.args.topic.now.facts is docs
    (λ doc. c.in_ok-docs.ensures.each doc ∙ ap (λ need. disagrees_at need c.marks.result.now.marked doc) c.need-need.ensures
    ∙ ap (λ (marked : List LabelledDocument). disagrees_at c.args.topic.now.facts.need marked doc) c.marks.ensures) c.labelled_are_listed.ensures) in
    let items_are : c.deref-docno-items.result.now ≡ c.in_order.result.items = c.deref-docno-items.ensures.value in
    let past : length c.deref-docno-items.result.now ≤ c.loop-docno.docno-index = search rules in
    let whole : take c.loop-docno.docno-index c.deref-docno-items.result.now ≡ c.in_order.result.items =
    take_all c.loop-docno.docno-index c.deref-docno-items.result.now past ∙ items_are in
    let done : c.loop-docno.out.items ≡ c.args.out.now.items ++ flat_map (λ docno. line docno.now) c.in_order.result.items =
    c.loop-docno.invariant ∙ ap (λ docnos. c.args.out.now.items ++ flat_map (λ docno. line docno.now) docnos) whole in
    done ∙ ap (λ ts. c.args.out.now.items ++ ts) lines
