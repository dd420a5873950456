use Rattle.std.proofs.Common.{◌+◌, ◌-◌, ◌/◌, ◌^◌, ℕ, List, arith, subst, sym, refl, set, get_or}
use Rattle.rank_trees.proofs.Updates.{IsUpdated, above-enough, sum-fits, updated-above, updated-all, updated-leaf}
use Rattle.rank_trees.proofs.sum_trees.change_leaf.Goals as goal

pub loop-level-init : goal.loop-level-init
loop-level-init g c =
    let value : ℕ = get_or c.args.nodes.now (2 ^ c.args.depth + c.args.index) 0 - c.args.less + c.args.more in
    record {
      updated = subst (λ (xs : List ℕ). IsUpdated c.args.nodes.now xs c.args.depth c.args.index value c.args.less c.args.more 0 (c.pow.result + c.args.index))
          (sym c.change.ensures.nodes)
          (subst (λ (n : ℕ). IsUpdated c.args.nodes.now
          (set c.args.nodes.now (n + c.args.index) (get_or c.args.nodes.now (n + c.args.index) 0 - c.args.less + c.args.more))
          c.args.depth c.args.index value c.args.less c.args.more 0 (n + c.args.index))
          (sym c.pow.ensures)
          (updated-leaf c.args.depth c.args.nodes.now c.args.index value c.args.less c.args.more
          c.requires.sums c.requires.within refl c.requires.least c.requires.small));
      cost = omega (arith, c.change.ensures.cost);
    }

pub change-requires-in-loop-level-clause-least : goal.change-requires-in-loop-level-clause-least
change-requires-in-loop-level-clause-least g c =
    above-enough c.args.depth c.args.nodes.now c.loop-level.nodes c.args.index _ c.args.less c.args.more c.loop-level._level
    c.loop-level.node c.requires.sums c.loop-level-test.true c.loop-level.invariant.updated

pub change-requires-in-loop-level-clause-most : goal.change-requires-in-loop-level-clause-most
change-requires-in-loop-level-clause-most g c =
    let fits = sum-fits c.args.depth c.args.nodes.now c.loop-level.nodes c.args.index _ c.args.less c.args.more
    c.loop-level._level c.loop-level.node c.requires.sums c.loop-level-test.true c.loop-level.invariant.updated in
    omega (arith, fits)

pub loop-level-preserved : goal.loop-level-preserved
loop-level-preserved g c =
    let value : ℕ = get_or c.args.nodes.now (2 ^ c.args.depth + c.args.index) 0 - c.args.less + c.args.more in
    record {
      updated = subst
          (λ (xs : List ℕ). IsUpdated c.args.nodes.now xs c.args.depth c.args.index value c.args.less c.args.more
          (c.loop-level._level + 1) (c.loop-level.node / 2)) (sym c.change-in-loop-level.ensures.nodes)
          (updated-above c.args.depth c.args.nodes.now c.loop-level.nodes c.args.index value c.args.less c.args.more
          c.loop-level._level c.loop-level.node c.requires.sums c.loop-level-test.true c.loop-level.invariant.updated);
      cost = omega (arith, c.change-in-loop-level.ensures.cost, c.loop-level.invariant.cost);
    }

pub returns-clause-sums : goal.returns-clause-sums
returns-clause-sums g c =
    updated-all c.args.depth c.args.nodes.now c.loop-level.nodes c.args.index _ c.args.less c.args.more c.loop-level._level c.loop-level.node c.requires.sums
    (omega arith) c.loop-level.invariant.updated

pub returns-clause-leaves : goal.returns-clause-leaves
returns-clause-leaves g c = c.loop-level.invariant.updated.leaves
