use Rattle.std.proofs.Common.{sym, refl, arith}
use Rattle.rank_trees.proofs.Weights.{weighed-left, weighed-more}
use Rattle.rank_trees.proofs.weight_trees.weights_of.Goals as goal

pub loop-i-init : goal.loop-i-init
loop-i-init c = record {
  weighed = λ on is. (sym is, refl);
  small = omega arith;
}

pub loop-i-preserved : goal.loop-i-preserved
loop-i-preserved c = record {
  weighed = λ on is.
      let at = c.loop-i.invariant.weighed on is in (
        weighed-left on c.args.first c.loop-i.i c.loop-i.bits c.loop-i.sum at.0 at.1,
        weighed-more on c.args.first c.loop-i.i c.loop-i.bits c.loop-i.sum at.0 at.1 _ c.weight_if-sum.ensures.weight,
      );
  small = omega (arith, c.loop-i.invariant.small, c.weight_if-sum.ensures.small);
}
