use Rattle.std.proofs.lemmas.Result.{IfOk-weaker}
use Rattle.eval.proofs.RankedRuns.{ranked_lists}
use Rattle.eval.proofs.evaluation.lists_of.Goals as goal

pub returns-clause-ranked : goal.returns-clause-ranked
returns-clause-ranked c =
    IfOk-weaker c.read_lists.result _ _ (λ lists w. ranked_lists w.0 lists.items w.1.0.1.short w.2) c.read_lists.ensures.lists
