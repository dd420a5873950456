use Rattle.std.proofs.Common.{◌∙◌, ◌^◌, ◌≤◌, arith, subst}
use Rattle.std.specs.Prelude.{All}
use Rattle.measures.specs.Means.{measure_count}
use Rattle.measures.proofs.Places.{listed}
use Rattle.measures.proofs.RunningSums.{means_of_sums}
use Rattle.measures.proofs.totals.Totals.mean.Goals as goal

pub returns-clause-mean : goal.returns-clause-mean
returns-clause-mean c = λ cells are. rw c.shares-means.ensures.shares (means_of_sums _ cells (c.self.view_is ∙ are))

pub returns-clause-proper : goal.returns-clause-proper
returns-clause-proper c =
    subst (All (λ mean. mean ≤ 10 ^ 15)) (listed measure_count c.shares-means.result (omega arith)) c.shares-means.ensures.within
