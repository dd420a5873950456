use Rattle.std.proofs.Common.{◌+◌, ◌*◌, ◌-◌, ℕ, arith, subst, sym}
use Rattle.rank_trees.proofs.Levels.{leaves-few}
use Rattle.rank_trees.proofs.Spans.{span-level}
use Rattle.rank_trees.proofs.Sums.{IsNear, near-high, near-leaf, near-left, near-right, near-root}
use Rattle.rank_trees.proofs.sum_trees.find_leaf.Goals as goal
use Rattle.rank_trees.proofs.sum_trees.find_leaf.Goals.{then-left-rest, else-left-rest}

pub returns-then-all-number-clause-leaf : goal.returns-then-all-number-clause-leaf
returns-then-all-number-clause-leaf g c =
    omega (arith, span-level c.args.depth c.args.nodes.now c.requires c.args.depth (omega arith), c.if-all-number.true, c.read-all.ensures.node)

pub loop-level-init : goal.loop-level-init
loop-level-init g c = record {
  near = near-root c.args.nodes.now c.args.depth c.args.number (omega (arith, c.if-all-number.false, c.read-all.ensures.node));
  cost = omega (arith, c.read-all.ensures.cost);
}

pub overflow_mul-start : goal.overflow_mul-start
overflow_mul-start g c =
    let high = near-high c.args.depth c.args.nodes.now c.args.number c.loop-level._level c.loop-level.start c.loop-level.at
    c.loop-level.rest c.requires c.loop-level-test.true c.loop-level.invariant.near in
    let few = leaves-few c.args.depth c.requires.low in
    omega (arith, high, few, c.requires.size, c.loop-level.invariant.near.inside)

pub overflow_mul-at : goal.overflow_mul-at
overflow_mul-at g c =
    let high = near-high c.args.depth c.args.nodes.now c.args.number c.loop-level._level c.loop-level.start c.loop-level.at
    c.loop-level.rest c.requires c.loop-level-test.true c.loop-level.invariant.near in
    let few = leaves-few c.args.depth c.requires.low in
    omega (arith, high, few, c.requires.size, c.loop-level.invariant.near.inside)

pub overflow_add-start : goal.overflow_add-start
overflow_add-start g c =
    let high = near-high c.args.depth c.args.nodes.now c.args.number c.loop-level._level c.loop-level.start c.loop-level.at
    c.loop-level.rest c.requires c.loop-level-test.true c.loop-level.invariant.near in
    let few = leaves-few c.args.depth c.requires.low in
    omega (arith, high, few, c.requires.size, c.loop-level.invariant.near.inside)

pub read-left-requires : goal.read-left-requires
read-left-requires g c =
    let high = near-high c.args.depth c.args.nodes.now c.args.number c.loop-level._level c.loop-level.start c.loop-level.at
    c.loop-level.rest c.requires c.loop-level-test.true c.loop-level.invariant.near in
    omega (arith, high, c.requires.size, c.loop-level.invariant.near.inside)

pub overflow_add-at : goal.overflow_add-at
overflow_add-at g c =
    let high = near-high c.args.depth c.args.nodes.now c.args.number c.loop-level._level c.loop-level.start c.loop-level.at
    c.loop-level.rest c.requires c.loop-level-test.true c.loop-level.invariant.near in
    let few = leaves-few c.args.depth c.requires.low in
    omega (arith, high, few, c.requires.size, c.loop-level.invariant.near.inside)

pub loop-level-preserved : goal.loop-level-preserved
loop-level-preserved g c = record {
  near = elim c.if-left-rest.branch [
    | then-left-rest w ↦ rw (w.at-is, w.rest-is)
        (subst (λ (n : ℕ). IsNear c.args.nodes.now c.args.depth c.args.number (c.loop-level._level + 1) (c.loop-level.start * 2)
        (c.loop-level.at * 2 + 1) (c.loop-level.rest - n)) (sym c.read-left.ensures.node)
        (near-right c.args.depth c.args.nodes.now c.args.number c.loop-level._level c.loop-level.start c.loop-level.at c.loop-level.rest
        c.requires c.loop-level-test.true c.loop-level.invariant.near (omega (arith, w.if-left-rest.true, c.read-left.ensures.node))))
    | else-left-rest w ↦ rw (w.at-is, w.rest-is)
        (near-left c.args.depth c.args.nodes.now c.args.number c.loop-level._level c.loop-level.start c.loop-level.at c.loop-level.rest
        c.requires c.loop-level-test.true c.loop-level.invariant.near (omega (arith, w.if-left-rest.false, c.read-left.ensures.node)))
  ];
  cost = omega (arith, c.read-left.ensures.cost, c.loop-level.invariant.cost);
}

pub overflow_cast-result : goal.overflow_cast-result
overflow_cast-result g c =
    let leaf = near-leaf c.args.depth c.args.nodes.now c.args.number c.loop-level._level c.loop-level.start c.loop-level.at c.loop-level.rest
    (omega arith) c.loop-level.invariant.near in
    let few = leaves-few c.args.depth c.requires.low in
    omega (arith, leaf, few)

pub returns-clause-leaf : goal.returns-clause-leaf
returns-clause-leaf g c =
    near-leaf c.args.depth c.args.nodes.now c.args.number c.loop-level._level c.loop-level.start c.loop-level.at c.loop-level.rest
    (omega arith) c.loop-level.invariant.near
