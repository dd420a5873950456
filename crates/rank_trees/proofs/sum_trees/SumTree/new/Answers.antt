use Rattle.std.proofs.Common.{◌+◌, ◌*◌, ◌^◌, ◌<◌, List, ℕ, ap, ◌∙◌, arith, replicate, subst, sym}
use Rattle.rank_trees.specs.SumTrees.{IsSumTree, leaves_of}
use Rattle.rank_trees.proofs.Levels.{below_levels}
use Rattle.rank_trees.proofs.Spans.{new-leaves, new-tree}
use Rattle.rank_trees.proofs.sum_trees.SumTree.new.Goals as goal

pub invariant_of-result : goal.invariant_of-result
invariant_of-result c =
    let nodes = c.in_ok-nodes.ensures ∙ ap (λ (n : ℕ). replicate (2 * n) 0) c.pow.ensures in
    subst (λ (xs : List ℕ). IsSumTree (c.args.last + 1) c.depth_for-depth.result xs) (sym nodes)
    (new-tree c.args.last c.depth_for-depth.result c.requires c.depth_for-depth.ensures.depth c.depth_for-depth.ensures.low)

pub returns : goal.returns
returns c =
    let nodes = c.in_ok-nodes.ensures ∙ ap (λ (n : ℕ). replicate (2 * n) 0) c.pow.ensures in
    let room = subst (λ (d : ℕ). c.args.last < 2 ^ d) (sym c.depth_for-depth.ensures.depth) (below_levels c.args.last) in
    ap (λ (xs : List ℕ). leaves_of (c.args.last + 1) c.depth_for-depth.result xs) nodes
    ∙ new-leaves (c.args.last + 1) c.depth_for-depth.result (omega (arith, room))
