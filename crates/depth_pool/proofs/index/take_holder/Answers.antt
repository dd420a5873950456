use Rattle.std.proofs.Common.{not, eqb, rules}
use Rattle.depth_pool.specs.declared.runs.RunId.{RunId}
use Rattle.depth_pool.proofs.Lists.{filter_from_turns}
use Rattle.depth_pool.proofs.index.take_holder.Goals as goal

pub returns-then-had_one-clause-items : goal.returns-then-had_one-clause-items
returns-then-had_one-clause-items c =
    filter_from_turns _ (λ (holder : RunId). not (eqb holder.0 c.args.run.0)) _
    (λ x b t y called. (search rules, search rules, search rules)) _ _ c.retain.ensures.filtered

pub returns-else-had_one-clause-items : goal.returns-else-had_one-clause-items
returns-else-had_one-clause-items c =
    filter_from_turns _ (λ (holder : RunId). not (eqb holder.0 c.args.run.0)) _
    (λ x b t y called. (search rules, search rules, search rules)) _ _ c.retain.ensures.filtered
