use Rattle.std.proofs.Common.{◌≡◌, ◌+◌, ◌-◌, ◌/◌, ◌%◌, ◌∙◌, ap, arith, length}
use Rattle.decimal_rank.specs.Rankings.Places.{levels}
use Rattle.rank_trees.specs.PlacesOn.{weights_from}
use Rattle.rank_trees.proofs.Levels.{levels-le, levels-part}
use Rattle.rank_trees.proofs.SummedPlaces.{len-is}
use Rattle.rank_trees.proofs.Weights.{above-block, above-part, weights-long}
use Rattle.rank_trees.proofs.weight_trees.WeightTree.above.Goals as goal

pub sum_from-from_block-requires : goal.sum_from-from_block-requires
sum_from-from_block-requires g c =
    let long = len-is weights_from 16
    (c.self.inside.len / 16 + 1) c.self.inside.len c.self.inside.places c.self.inside.weights c.self.invariant c.args.self.now c.self.view_is in
    let sums = weights-long c.self.inside.len c.self.inside.places c.self.inside.weights c.self.invariant c.args.self.now c.self.view_is in
    omega (arith, long, sums, c.requires)

pub from-word-requires : goal.from-word-requires
from-word-requires g c =
    let long = len-is weights_from 16
    (c.self.inside.len / 16 + 1) c.self.inside.len c.self.inside.places c.self.inside.weights c.self.invariant c.args.self.now c.self.view_is in
    omega (arith, long, c.requires, c.self.invariant.long)

pub weights_of-requires : goal.weights_of-requires
weights_of-requires g c =
    let long = len-is weights_from 16
    (c.self.inside.len / 16 + 1) c.self.inside.len c.self.inside.places c.self.inside.weights c.self.invariant c.args.self.now c.self.view_is in
    record {
      from_one = omega arith;
      few = omega (arith, long, c.requires, c.self.invariant.few);
      within = omega arith;
    }

pub returns-then-place-eq0-clause-weights : goal.returns-then-place-eq0-clause-weights
returns-then-place-eq0-clause-weights g c =
    c.sum_from-from_block.ensures.sum
    ∙ above-block c.self.inside.len c.self.inside.places c.self.inside.weights c.self.invariant c.args.self.now c.self.view_is c.args.place
    (c.args.place / 16) c.requires (omega (arith, c.if-place-eq0.true))

pub returns-then-place-eq0-clause-cost : goal.returns-then-place-eq0-clause-cost
returns-then-place-eq0-clause-cost g c =
    let long = len-is weights_from 16
    (c.self.inside.len / 16 + 1) c.self.inside.len c.self.inside.places c.self.inside.weights c.self.invariant c.args.self.now c.self.view_is in
    let sums = weights-long c.self.inside.len c.self.inside.places c.self.inside.weights c.self.invariant c.args.self.now c.self.view_is in
    let last : length c.self.inside.weights - 1 ≡ c.self.inside.len / 16 = omega (arith, sums) in
    let deep = ap levels last in
    let part = levels-le (c.self.inside.len / 16) (length c.args.self.now) (omega (arith, long)) in
    omega (arith, c.sum_from-from_block.ensures.cost, deep, part)

pub overflow_sub-result : goal.overflow_sub-result
overflow_sub-result g c =
    let part = above-part c.self.inside.len c.self.inside.places c.self.inside.weights c.self.invariant c.args.self.now c.self.view_is c.args.place
    (c.args.place / 16) (c.args.place % 16) c.requires (omega arith) (omega arith) in
    omega (arith, part, c.sum_from-from_block.ensures.sum, c.weights_of.ensures _ c.from-word.ensures.places)

pub returns-clause-weights : goal.returns-clause-weights
returns-clause-weights g c =
    let part = above-part c.self.inside.len c.self.inside.places c.self.inside.weights c.self.invariant c.args.self.now c.self.view_is c.args.place
    (c.args.place / 16) (c.args.place % 16) c.requires (omega arith) (omega arith) in
    omega (arith, part, c.sum_from-from_block.ensures.sum, c.weights_of.ensures _ c.from-word.ensures.places)

pub returns-clause-cost : goal.returns-clause-cost
returns-clause-cost g c =
    let long = len-is weights_from 16
    (c.self.inside.len / 16 + 1) c.self.inside.len c.self.inside.places c.self.inside.weights c.self.invariant c.args.self.now c.self.view_is in
    let sums = weights-long c.self.inside.len c.self.inside.places c.self.inside.weights c.self.invariant c.args.self.now c.self.view_is in
    let last : length c.self.inside.weights - 1 ≡ c.self.inside.len / 16 = omega (arith, sums) in
    let deep = ap levels last in
    let part = levels-part (c.self.inside.len / 16) (length c.args.self.now) (omega (arith, c.requires, c.if-place-eq0.false)) (omega (arith, long)) in
    omega (arith, c.sum_from-from_block.ensures.cost, c.from-word.ensures.cost, deep, part)
