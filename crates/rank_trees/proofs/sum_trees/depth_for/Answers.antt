use Rattle.std.proofs.Common.{arith}
use Rattle.rank_trees.proofs.Levels.{levels-few, levels-half, levels-none}
use Rattle.rank_trees.proofs.sum_trees.depth_for.Goals as goal

pub overflow_add-depth : goal.overflow_add-depth
overflow_add-depth c = omega (arith, levels-few c.args.last c.requires)

pub loop-rest-preserved : goal.loop-rest-preserved
loop-rest-preserved c = omega (arith, levels-half c.loop-rest.rest c.loop-rest-test.true)

pub returns-clause-depth : goal.returns-clause-depth
returns-clause-depth c = omega (arith, levels-none c.loop-rest.rest (omega arith))

pub returns-clause-low : goal.returns-clause-low
returns-clause-low c = omega (arith, levels-few c.args.last c.requires)
