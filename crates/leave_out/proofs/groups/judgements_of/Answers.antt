use Rattle.std.proofs.Common.{subst, sym}
use Rattle.rulebook.specs.Words.{Text}
use Rattle.leave_out.specs.ReducedJudgements.{AreReduced}
use Rattle.leave_out.proofs.groups.judgements_of.Goals as goal

pub returns-clause-reduced : goal.returns-clause-reduced
returns-clause-reduced c =
    subst (λ (group : Text). AreReduced c.args.state.now.history group c.in_ok-topics.topics.items) (sym c.in_ok-group.ensures.text) c.in_ok-topics.ensures
