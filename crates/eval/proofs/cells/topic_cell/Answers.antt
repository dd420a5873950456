use Rattle.std.proofs.Common.{◌∙◌, ap, refl, arith, length, map}
use Rattle.std.specs.Prelude.{count_by, nat_le, nat_lt}
use Rattle.std.proofs.lemmas.List.{length-map}
use Rattle.measures.specs.Cells.{cell_of}
use Rattle.measures.specs.Grades.{is_relevant, is_non_relevant}
use Rattle.trec_formats.specs.QrelsFormat.Qrels.{grade_on}
use Rattle.eval.specs.declared.judgements.Tally.{Tally}
use Rattle.eval.specs.Evaluations.{relevant_level}
use Rattle.eval.proofs.JudgedDocuments.{judged_on_le}
use Rattle.eval.proofs.Tallies.{most_others, most_relevant}
use Rattle.eval.proofs.cells.topic_cell.Goals as goal

pub scratch-requires-clause-length : goal.scratch-requires-clause-length
scratch-requires-clause-length c =
    let graded = c.deref.ensures.value ∙ c.in_ok-graded.ensures in
    omega (arith, ap length graded, length-map c.args.docs.now (grade_on c.args.qrels.now c.args.topic.now), c.requires.short)

pub scratch-requires-clause-few : goal.scratch-requires-clause-few
scratch-requires-clause-few c =
    omega (arith, ap (λ (tally : Tally). tally.relevant) c.requires.tally, most_relevant c.args.qrels.now c.args.topic.now, c.requires.few)

pub scratch-requires-clause-few_others : goal.scratch-requires-clause-few_others
scratch-requires-clause-few_others c =
    omega (arith, ap (λ (tally : Tally). tally.others) c.requires.tally, most_others c.args.qrels.now c.args.topic.now, c.requires.few)

pub scratch-requires-clause-relevant : goal.scratch-requires-clause-relevant
scratch-requires-clause-relevant c =
    let graded = c.deref.ensures.value ∙ c.in_ok-graded.ensures in
    omega (
      arith,
      ap (count_by (is_relevant relevant_level)) graded,
      ap (λ (tally : Tally). tally.relevant) c.requires.tally,
      judged_on_le (is_relevant relevant_level) (nat_le relevant_level)
          (λ grade. refl) refl c.args.qrels.now c.args.topic.now c.args.docs.now c.requires.differ,
    )

pub scratch-requires-clause-non_relevant : goal.scratch-requires-clause-non_relevant
scratch-requires-clause-non_relevant c =
    let graded = c.deref.ensures.value ∙ c.in_ok-graded.ensures in
    omega (
      arith,
      ap (count_by (is_non_relevant relevant_level)) graded,
      ap (λ (tally : Tally). tally.others) c.requires.tally,
      judged_on_le (is_non_relevant relevant_level) (λ grade. nat_lt grade relevant_level)
          (λ grade. refl) refl c.args.qrels.now c.args.topic.now c.args.docs.now c.requires.differ,
    )

pub returns-clause-cell : goal.returns-clause-cell
returns-clause-cell c =
    let graded = c.deref.ensures.value ∙ c.in_ok-graded.ensures in
    c.scratch.ensures.cell
    ∙ ap (λ grades. cell_of grades c.args.tally.relevant c.args.tally.others relevant_level) graded
    ∙ ap (λ (tally : Tally). cell_of (map (grade_on c.args.qrels.now c.args.topic.now) c.args.docs.now) tally.relevant tally.others relevant_level)
    c.requires.tally
