use Rattle.std.proofs.Common.{◌≡◌, ◌+◌, ◌-◌, ◌/◌, ◌%◌, ◌<◌, ◌^◌, ◌∙◌, List, Bool, ℕ, ap, arith, length, set, take}
use Rattle.std.proofs.Math.Seq.{take-set-lt}
use Rattle.decimal_rank.specs.Rankings.Places.{levels}
use Rattle.rank_trees.specs.PlacesOn.{weights_from}
use Rattle.rank_trees.proofs.Blocks.{place-is, place_at}
use Rattle.rank_trees.proofs.Levels.{levels-part}
use Rattle.rank_trees.proofs.SummedPlaces.{changed, least-set, len-is, small-set}
use Rattle.rank_trees.proofs.Weights.{weight-off, weight_of, weights-few, weights-long, weights-none, weights-one, weights-split}
use Rattle.rank_trees.proofs.weight_trees.WeightTree.set.Goals as goal

at : (place : ℕ) → place_at 16 ((place - 1) / 16) ((place - 1) % 16) ≡ place - 1
at place = omega (arith, place-is 16 ((place - 1) / 16) ((place - 1) % 16))

pub put-was-requires : goal.put-was-requires
put-was-requires g c =
    let long = len-is weights_from 16
    (c.self.inside.len / 16 + 1) c.self.inside.len c.self.inside.places c.self.inside.weights c.self.invariant c.args.self.now c.self.view_is in
    omega (arith, long, c.requires.within, c.requires.from_one, c.self.invariant.long)

pub change-requires : goal.change-requires
change-requires g c =
    let long = len-is weights_from 16
    (c.self.inside.len / 16 + 1) c.self.inside.len c.self.inside.places c.self.inside.weights c.self.invariant c.args.self.now c.self.view_is in
    let sums = weights-long c.self.inside.len c.self.inside.places c.self.inside.weights c.self.invariant c.args.self.now c.self.view_is in
    let within : c.args.place - 1 < c.self.inside.len = omega (arith, long, c.requires.within, c.requires.from_one) in
    let fewer : (c.args.place - 1) / 16 < c.self.inside.len / 16 + 1 = omega (arith, long, c.requires.within, c.requires.from_one) in
    let e : c.args.place ≡ 1 + (c.args.place - 1) = omega (arith, c.requires.from_one) in
    let lost = c.weight_if-less.ensures.weight ∙ ap (λ (p : ℕ). weight_of p c.put-was.result) e
    ∙ ap (λ (b : Bool). weight_of (1 + (c.args.place - 1)) b) c.put-was.ensures.was in
    let gained = c.weight_if-more.ensures.weight ∙ ap (λ (p : ℕ). weight_of p c.args.on) e in
    record {
      within = omega (arith, sums, fewer);
      least = omega (
        arith,
        lost,
        least-set weights_from weights-none weights-split 16 weight_of weight-off weights-one
            (c.self.inside.len / 16 + 1) c.self.inside.len c.self.inside.places c.self.inside.weights c.self.invariant
            ((c.args.place - 1) / 16) ((c.args.place - 1) % 16) (c.args.place - 1) fewer (omega arith) (at c.args.place) within,
      );
      small = omega (
        arith,
        lost,
        gained,
        small-set weights_from weights-none weights-split 16 weight_of weight-off weights-one
            (c.self.inside.len / 16 + 1) c.self.inside.len c.self.inside.places c.self.inside.weights c.self.invariant
            ((c.args.place - 1) / 16) ((c.args.place - 1) % 16) (c.args.place - 1) fewer (omega arith) (at c.args.place) within (10 ^ 15) weights-few c.args.on,
      );
    }

pub invariant_of-self : goal.invariant_of-self
invariant_of-self g c =
    let long = len-is weights_from 16
    (c.self.inside.len / 16 + 1) c.self.inside.len c.self.inside.places c.self.inside.weights c.self.invariant c.args.self.now c.self.view_is in
    let within : c.args.place - 1 < c.self.inside.len = omega (arith, long, c.requires.within, c.requires.from_one) in
    let fewer : (c.args.place - 1) / 16 < c.self.inside.len / 16 + 1 = omega (arith, long, c.requires.within, c.requires.from_one) in
    let e : c.args.place ≡ 1 + (c.args.place - 1) = omega (arith, c.requires.from_one) in
    changed weights_from weights-none weights-split 16 weight_of weight-off weights-one
    (c.self.inside.len / 16 + 1) c.self.inside.len c.self.inside.places c.self.inside.weights c.self.invariant
    ((c.args.place - 1) / 16) ((c.args.place - 1) % 16) (c.args.place - 1) fewer (omega arith) (at c.args.place) within
    c.put-was.result c.args.on c.weight_if-less.result c.weight_if-more.result c.put-was.new.self c.change.new.self c.put-was.ensures.was
    (c.weight_if-less.ensures.weight ∙ ap (λ (p : ℕ). weight_of p c.put-was.result) e)
    (c.weight_if-more.ensures.weight ∙ ap (λ (p : ℕ). weight_of p c.args.on) e) c.put-was.ensures.places c.change.ensures.leaves

pub returns-clause-on : goal.returns-clause-on
returns-clause-on g c =
    let long = len-is weights_from 16
    (c.self.inside.len / 16 + 1) c.self.inside.len c.self.inside.places c.self.inside.weights c.self.invariant c.args.self.now c.self.view_is in
    ap (λ (on : List Bool). take c.self.inside.len on) c.put-was.ensures.places
    ∙ take-set-lt c.self.inside.len c.self.inside.places (c.args.place - 1) c.args.on (omega (arith, long, c.requires.within, c.requires.from_one))
    ∙ ap (λ (on : List Bool). set on (c.args.place - 1) c.args.on) c.self.view_is

pub returns-clause-cost : goal.returns-clause-cost
returns-clause-cost g c =
    let long = len-is weights_from 16
    (c.self.inside.len / 16 + 1) c.self.inside.len c.self.inside.places c.self.inside.weights c.self.invariant c.args.self.now c.self.view_is in
    let sums = weights-long c.self.inside.len c.self.inside.places c.self.inside.weights c.self.invariant c.args.self.now c.self.view_is in
    let last : length c.self.inside.weights - 1 ≡ c.self.inside.len / 16 = omega (arith, sums) in
    let deep = ap levels last in
    let part = levels-part (c.self.inside.len / 16) (length c.args.self.now) (omega (arith, c.requires.within, c.requires.from_one)) (omega (arith, long)) in
    omega (arith, c.put-was.ensures.cost, c.change.ensures.cost, deep, part)
