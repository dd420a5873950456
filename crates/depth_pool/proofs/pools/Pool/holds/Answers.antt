use Rattle.std.proofs.Common.{◌∙◌}
use Rattle.depth_pool.proofs.pools.Pool.holds.Goals as goal

pub returns-clause-value : goal.returns-clause-value
returns-clause-value g c = c.is_among.ensures ∙ c.holders.ensures.each c.args.run
