use Rattle.std.proofs.Common.{List, ℕ, arith, ap, ◌∙◌, sum, take}
use Rattle.rank_trees.proofs.sum_trees.SumTree.sum_before.Goals as goal
use Rattle.rank_trees.proofs.Spans.{leaves-before, list-deep, list-long, room}

pub sum_before-requires-clause-within : goal.sum_before-requires-clause-within
sum_before-requires-clause-within g c =
    omega (
      arith,
      c.requires,
      list-long c.self.inside.len c.self.inside.depth c.self.inside.nodes c.self.invariant c.args.self.now c.self.view_is,
      room c.self.inside.len c.self.inside.depth c.self.inside.nodes c.self.invariant,
    )

pub returns-clause-sum : goal.returns-clause-sum
returns-clause-sum g c =
    let long = list-long c.self.inside.len c.self.inside.depth c.self.inside.nodes c.self.invariant c.args.self.now c.self.view_is in
    c.sum_before.ensures.sum
    ∙ leaves-before c.self.inside.len c.self.inside.depth c.self.inside.nodes c.self.invariant c.args.index (omega (arith, c.requires, long))
    ∙ ap (λ (leaves : List ℕ). sum (take c.args.index leaves)) c.self.view_is

pub returns-clause-cost : goal.returns-clause-cost
returns-clause-cost g c =
    omega (
      arith,
      c.sum_before.ensures.cost,
      list-deep c.self.inside.len c.self.inside.depth c.self.inside.nodes c.self.invariant c.args.self.now c.self.view_is,
    )
