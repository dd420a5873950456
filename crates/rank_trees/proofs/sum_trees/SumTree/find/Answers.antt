use Rattle.std.proofs.Common.{arith}
use Rattle.rank_trees.proofs.sum_trees.SumTree.find.Goals as goal
use Rattle.rank_trees.proofs.Spans.{found-leaf, list-deep}

pub returns-clause-leaf : goal.returns-clause-leaf
returns-clause-leaf g c =
    found-leaf c.self.inside.len c.self.inside.depth c.self.inside.nodes c.self.invariant c.args.self.now
    c.self.view_is c.args.number c.find_leaf.result c.find_leaf.ensures.leaf

pub returns-clause-cost : goal.returns-clause-cost
returns-clause-cost g c =
    omega (arith, c.find_leaf.ensures.cost, list-deep c.self.inside.len c.self.inside.depth c.self.inside.nodes c.self.invariant c.args.self.now c.self.view_is)
