use Rattle.std.proofs.Common.{◌≡◌, ◌+◌, ◌-◌, ◌/◌, ◌%◌, ◌<◌, ◌∙◌, List, Bool, ℕ, ap, arith, length, set, take}
use Rattle.std.proofs.Math.Seq.{take-set-lt}
use Rattle.decimal_rank.specs.Rankings.Places.{levels}
use Rattle.rank_trees.specs.Blocks.{count_from}
use Rattle.rank_trees.proofs.Blocks.{place-is, place_at}
use Rattle.rank_trees.proofs.Counts.{count-few, count-none, count-one, count-split, counts-long, one-off, one_if}
use Rattle.rank_trees.proofs.Levels.{levels-part}
use Rattle.rank_trees.proofs.SummedPlaces.{changed, least-set, len-is, small-set}
use Rattle.rank_trees.proofs.count_trees.CountTree.set.Goals as goal

at : (place : ℕ) → place_at 64 ((place - 1) / 64) ((place - 1) % 64) ≡ place - 1
at place = omega (arith, place-is 64 ((place - 1) / 64) ((place - 1) % 64))

pub put-was-requires : goal.put-was-requires
put-was-requires g c =
    let long = len-is count_from 64
    (c.self.inside.len / 64 + 1) c.self.inside.len c.self.inside.places c.self.inside.counts c.self.invariant c.args.self.now c.self.view_is in
    omega (arith, long, c.requires.within, c.requires.from_one, c.self.invariant.long)

pub change-requires : goal.change-requires
change-requires g c =
    let long = len-is count_from 64
    (c.self.inside.len / 64 + 1) c.self.inside.len c.self.inside.places c.self.inside.counts c.self.invariant c.args.self.now c.self.view_is in
    let sums = counts-long c.self.inside.len c.self.inside.places c.self.inside.counts c.self.invariant c.args.self.now c.self.view_is in
    let within : c.args.place - 1 < c.self.inside.len = omega (arith, long, c.requires.within, c.requires.from_one) in
    let fewer : (c.args.place - 1) / 64 < c.self.inside.len / 64 + 1 = omega (arith, long, c.requires.within, c.requires.from_one) in
    let lost = c.from-less.ensures ∙ ap (λ (b : Bool). one_if 0 b) c.put-was.ensures.was in
    record {
      within = omega (arith, sums, fewer);
      least = omega (
        arith,
        lost,
        least-set count_from count-none count-split 64 one_if one-off count-one
            (c.self.inside.len / 64 + 1) c.self.inside.len c.self.inside.places c.self.inside.counts c.self.invariant
            ((c.args.place - 1) / 64) ((c.args.place - 1) % 64) (c.args.place - 1) fewer (omega arith) (at c.args.place) within,
      );
      small = omega (
        arith,
        lost,
        c.from-more.ensures,
        small-set count_from count-none count-split 64 one_if one-off count-one
            (c.self.inside.len / 64 + 1) c.self.inside.len c.self.inside.places c.self.inside.counts c.self.invariant
            ((c.args.place - 1) / 64) ((c.args.place - 1) % 64) (c.args.place - 1) fewer (omega arith) (at c.args.place) within 1 count-few c.args.on,
      );
    }

pub invariant_of-self : goal.invariant_of-self
invariant_of-self g c =
    let long = len-is count_from 64
    (c.self.inside.len / 64 + 1) c.self.inside.len c.self.inside.places c.self.inside.counts c.self.invariant c.args.self.now c.self.view_is in
    let within : c.args.place - 1 < c.self.inside.len = omega (arith, long, c.requires.within, c.requires.from_one) in
    let fewer : (c.args.place - 1) / 64 < c.self.inside.len / 64 + 1 = omega (arith, long, c.requires.within, c.requires.from_one) in
    changed count_from count-none count-split 64 one_if one-off count-one
    (c.self.inside.len / 64 + 1) c.self.inside.len c.self.inside.places c.self.inside.counts c.self.invariant
    ((c.args.place - 1) / 64) ((c.args.place - 1) % 64) (c.args.place - 1) fewer (omega arith) (at c.args.place) within
    c.put-was.result c.args.on c.from-less.result c.from-more.result c.put-was.new.self c.change.new.self c.put-was.ensures.was
    c.from-less.ensures c.from-more.ensures c.put-was.ensures.places c.change.ensures.leaves

pub returns-clause-on : goal.returns-clause-on
returns-clause-on g c =
    let long = len-is count_from 64
    (c.self.inside.len / 64 + 1) c.self.inside.len c.self.inside.places c.self.inside.counts c.self.invariant c.args.self.now c.self.view_is in
    ap (λ (on : List Bool). take c.self.inside.len on) c.put-was.ensures.places
    ∙ take-set-lt c.self.inside.len c.self.inside.places (c.args.place - 1) c.args.on (omega (arith, long, c.requires.within, c.requires.from_one))
    ∙ ap (λ (on : List Bool). set on (c.args.place - 1) c.args.on) c.self.view_is

pub returns-clause-cost : goal.returns-clause-cost
returns-clause-cost g c =
    let long = len-is count_from 64
    (c.self.inside.len / 64 + 1) c.self.inside.len c.self.inside.places c.self.inside.counts c.self.invariant c.args.self.now c.self.view_is in
    let sums = counts-long c.self.inside.len c.self.inside.places c.self.inside.counts c.self.invariant c.args.self.now c.self.view_is in
    let last : length c.self.inside.counts - 1 ≡ c.self.inside.len / 64 = omega (arith, sums) in
    let deep = ap levels last in
    let part = levels-part (c.self.inside.len / 64) (length c.args.self.now) (omega (arith, c.requires.within, c.requires.from_one)) (omega (arith, long)) in
    omega (arith, c.put-was.ensures.cost, c.change.ensures.cost, deep, part)
