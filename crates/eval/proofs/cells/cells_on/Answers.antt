use Rattle.std.proofs.Common.{◌≡◌, ◌<◌, ◌∙◌, ◌∷◌, ◌++◌, [], ap, sym, refl, arith, get_or, length, map, take}
use Rattle.std.proofs.lemmas.List.{get_or-map, map-append, take_all, take_more}
use Rattle.std.proofs.lemmas.List.Elements.{All-push}
use Rattle.std.proofs.lemmas.Option.{get_or_from_slice_get}
use Rattle.measures.specs.Cells.{IsSound}
use Rattle.eval.specs.Evaluations.{evaluated_cell}
use Rattle.eval.specs.Tables.{cell_in, tally_on}
use Rattle.eval.proofs.JudgedDocuments.{docs_differ, docs_short}
use Rattle.eval.proofs.cells.cells_on.Goals as goal

pub loop-number-init : goal.loop-number-init
loop-number-init c = rw c.in_ok-cells.ensures.items (record { cells = refl; sound = λ k d within. absurd (omega (arith, within)) })

pub topic_cell-requires-clause-differ : goal.topic_cell-requires-clause-differ
topic_cell-requires-clause-differ c = rw c.docs_on-docs.ensures (docs_differ c.args.lists.now c.name-topic.result.now c.requires.lists)

pub topic_cell-requires-clause-short : goal.topic_cell-requires-clause-short
topic_cell-requires-clause-short c = rw c.docs_on-docs.ensures (docs_short c.args.lists.now c.name-topic.result.now c.requires.lists)

pub topic_cell-requires-clause-tally : goal.topic_cell-requires-clause-tally
topic_cell-requires-clause-tally c =
    let topics = c.args.judgements.now.topics in
    let number = c.loop-number.number in
    let topic = c.name-topic.result.now in
    let within : number < length topics = omega (arith, c.loop-number-test.true, c.len-count.ensures.len) in
    c.index-tally.ensures
    ∙ ap (λ tallies. get_or tallies number c.index-tally.result.now) c.requires.tallies
    ∙ get_or-map (tally_on c.args.qrels.now) topics number topic c.index-tally.result.now within
    ∙ ap (tally_on c.args.qrels.now) (get_or_from_slice_get topics number topic topic c.name-topic.ensures)

pub loop-number-preserved : goal.loop-number-preserved
loop-number-preserved c =
    let qrels = c.args.qrels.now in
    let lists = c.args.lists.now in
    let topics = c.args.judgements.now.topics in
    let topic = c.name-topic.result.now in
    let cell : c.in_ok-topic_cell.field-0 ≡ evaluated_cell lists qrels topic =
    c.in_ok-topic_cell.ensures.cell ∙ ap (λ docs. cell_in docs qrels topic) c.docs_on-docs.ensures in
    let before = take c.loop-number.number topics in
    record {
      cells = c.in_ok-push.ensures.items ∙ ap (λ cells. cells ++ c.in_ok-topic_cell.field-0 ∷ []) c.loop-number.invariant.cells
          ∙ ap (λ cell. map (evaluated_cell lists qrels) before ++ cell ∷ []) cell
          ∙ sym (map-append (evaluated_cell lists qrels) before (topic ∷ []))
          ∙ ap (map (evaluated_cell lists qrels))
          (sym (take_more topics c.loop-number.number topic (omega (arith, c.loop-number-test.true, c.len-count.ensures.len))
          ∙ ap (λ t. before ++ t ∷ []) (get_or_from_slice_get topics c.loop-number.number topic topic c.name-topic.ensures)));
      sound = rw c.in_ok-push.ensures.items
          (All-push IsSound c.loop-number.cells.items c.in_ok-topic_cell.field-0 c.loop-number.invariant.sound c.in_ok-topic_cell.ensures.sound);
    }

pub returns-clause-cells : goal.returns-clause-cells
returns-clause-cells c =
    c.loop-number.invariant.cells ∙ ap (map (evaluated_cell c.args.lists.now c.args.qrels.now))
    (take_all c.loop-number.number c.args.judgements.now.topics (omega (arith, c.loop-number-test.false, c.len-count.ensures.len)))

pub returns-clause-sound : goal.returns-clause-sound
returns-clause-sound c = c.loop-number.invariant.sound
