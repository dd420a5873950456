use Rattle.std.proofs.Common.{rules, not, eqb}
use Rattle.std.proofs.lemmas.Fn.{filter_same}
use Rattle.depth_pool.specs.declared.runs.RunId.{RunId}
use Rattle.mtf_queue.proofs.moves.remove_run.Goals as goal

pub returns-clause-runs : goal.returns-clause-runs
returns-clause-runs c = filter_same _ (λ (other : RunId). not (eqb other.0 c.args.run.0)) _ (λ x b f' called. search rules) _ _ c.retain.ensures.filtered
