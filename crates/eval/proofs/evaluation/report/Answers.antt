use Rattle.std.proofs.Common.{ap, arith, length}
use Rattle.std.proofs.lemmas.List.{length-map}
use Rattle.eval.specs.Evaluations.{evaluated_cell, topics_of}
use Rattle.eval.proofs.Topics.{all_topics_of-le}
use Rattle.eval.proofs.evaluation.report.Goals as goal

pub mean-requires-clause-few : goal.mean-requires-clause-few
mean-requires-clause-few c =
    omega (
      arith,
      ap length c.deref.ensures.value,
      ap length c.in_ok-cells.ensures.cells,
      length-map (topics_of c.args.qrels.now)
          (evaluated_cell c.args.lists.now c.args.qrels.now),
      all_topics_of-le c.args.qrels.now,
      c.requires.few,
    )
