use Rattle.std.proofs.Common.{◌^◌, ◌-◌, List, ℕ, ap, ◌∙◌, arith, drop, sum, get_or}
use Rattle.std.proofs.Math.Nat.{one-le-pow}
use Rattle.rank_trees.proofs.Spans.{leaves-from, list-deep, list-long, room, span-le, span-level}
use Rattle.rank_trees.proofs.sum_trees.SumTree.sum_from.Goals as goal

pub read-requires : goal.read-requires
read-requires g c = let some = one-le-pow c.self.inside.depth 2 (omega arith) in omega (arith, some, c.self.invariant.sums.size)

pub sum_before-requires-clause-within : goal.sum_before-requires-clause-within
sum_before-requires-clause-within g c =
    omega (
      arith,
      c.requires,
      list-long c.self.inside.len c.self.inside.depth c.self.inside.nodes c.self.invariant c.args.self.now c.self.view_is,
      room c.self.inside.len c.self.inside.depth c.self.inside.nodes c.self.invariant,
    )

pub overflow_sub-result : goal.overflow_sub-result
overflow_sub-result g c =
    let long = list-long c.self.inside.len c.self.inside.depth c.self.inside.nodes c.self.invariant c.args.self.now c.self.view_is in
    let all = span-le c.self.inside.nodes (2 ^ c.self.inside.depth) c.args.index (2 ^ c.self.inside.depth)
    (omega (arith, c.requires, long, room c.self.inside.len c.self.inside.depth c.self.inside.nodes c.self.invariant)) in
    let level = span-level c.self.inside.depth c.self.inside.nodes c.self.invariant.sums c.self.inside.depth (omega arith) in
    omega (arith, c.read.ensures.node, c.sum_before.ensures.sum, all, level)

pub returns-clause-sum : goal.returns-clause-sum
returns-clause-sum g c =
    let long = list-long c.self.inside.len c.self.inside.depth c.self.inside.nodes c.self.invariant c.args.self.now c.self.view_is in
    ap (λ (n : ℕ). n - c.sum_before.result) c.read.ensures.node ∙ ap (λ (n : ℕ). get_or c.self.inside.nodes 1 0 - n) c.sum_before.ensures.sum
    ∙ leaves-from c.self.inside.len c.self.inside.depth c.self.inside.nodes c.self.invariant c.args.index (omega (arith, c.requires, long))
    ∙ ap (λ (leaves : List ℕ). sum (drop c.args.index leaves)) c.self.view_is

pub returns-clause-cost : goal.returns-clause-cost
returns-clause-cost g c =
    omega (
      arith,
      c.read.ensures.cost,
      c.sum_before.ensures.cost,
      list-deep c.self.inside.len c.self.inside.depth c.self.inside.nodes c.self.invariant c.args.self.now c.self.view_is,
    )
