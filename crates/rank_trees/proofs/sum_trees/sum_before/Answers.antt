use Rattle.std.proofs.Common.{◌+◌, ◌/◌, ℕ, arith, subst, sym}
use Rattle.rank_trees.proofs.Sums.{IsSummed, summed-all, summed-fits, summed-left, summed-none, summed-right}
use Rattle.rank_trees.proofs.sum_trees.sum_before.Goals as goal
use Rattle.rank_trees.proofs.sum_trees.sum_before.Goals.{then-at-eq1, else-at-eq1}

pub loop-level-init : goal.loop-level-init
loop-level-init g c = record {
  summed = subst (λ n. IsSummed c.args.nodes.now c.args.depth c.args.index 0 n c.args.index 0) (sym c.pow-start.ensures)
      (summed-none c.args.nodes.now c.args.depth c.args.index c.requires.within);
  cost = omega arith;
}

pub read-sum-requires : goal.read-sum-requires
read-sum-requires g c = omega (arith, c.requires.sums.size, c.loop-level.invariant.summed.high, c.loop-level.invariant.summed.inside)

pub overflow_add-sum : goal.overflow_add-sum
overflow_add-sum g c =
    let fits = summed-fits c.args.depth c.args.nodes.now c.args.index c.loop-level._level c.loop-level.start c.loop-level.at c.loop-level.sum
    c.requires.sums c.requires.within c.loop-level.invariant.summed c.if-at-eq1.true in
    omega (arith, fits, c.read-sum.ensures.node)

pub loop-level-preserved : goal.loop-level-preserved
loop-level-preserved g c =
    record {
      summed = elim c.if-at-eq1.branch [
        | then-at-eq1 w ↦ rw w.sum-is
            (subst (λ (n : ℕ). IsSummed c.args.nodes.now c.args.depth c.args.index (c.loop-level._level + 1)
            (c.loop-level.start / 2) (c.loop-level.at / 2) (c.loop-level.sum + n)) (sym w.read-sum.ensures.node)
            (summed-left c.args.depth c.args.nodes.now c.args.index c.loop-level._level c.loop-level.start c.loop-level.at
            c.loop-level.sum c.requires.sums c.loop-level-test.true c.loop-level.invariant.summed w.if-at-eq1.true))
        | else-at-eq1 w ↦ rw w.sum-is
            (summed-right c.args.depth c.args.nodes.now c.args.index c.loop-level._level c.loop-level.start c.loop-level.at c.loop-level.sum
            c.requires.sums c.loop-level-test.true c.loop-level.invariant.summed w.if-at-eq1.false)
      ];
      cost = elim c.if-at-eq1.branch [
        | then-at-eq1 w ↦ rw w.steps-is (omega (arith, w.read-sum.ensures.cost, c.loop-level.invariant.cost))
        | else-at-eq1 w ↦ rw w.steps-is (omega (arith, c.loop-level.invariant.cost))
      ];
    }

pub returns-clause-sum : goal.returns-clause-sum
returns-clause-sum g c =
    summed-all c.args.depth c.args.nodes.now c.args.index c.loop-level._level c.loop-level.start c.loop-level.at c.loop-level.sum
    (omega arith) c.loop-level.invariant.summed
