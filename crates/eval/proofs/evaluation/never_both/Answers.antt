use Rattle.eval.proofs.LinesOrFaults.{exclusive}
use Rattle.eval.proofs.evaluation.never_both.Goals as goal

pub returns : goal.returns
returns c = exclusive c.one_rankable_reading.ensures c.one_qrels_reading.ensures
