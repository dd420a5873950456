use Rattle.std.proofs.Common.{rules, eqb, not}
use Rattle.std.proofs.lemmas.Fn.{filter_same}
use Rattle.depth_pool.specs.declared.runs.RunId.{RunId}
use Rattle.campaign_core.proofs.campaign.submissions.take_out.Goals as goal

pub returns : goal.returns
returns c = filter_same _ (λ (other : RunId). not (eqb other.0 c.args.run.0)) _ (λ x b f' called. search rules) _ _ c.retain.ensures.filtered
