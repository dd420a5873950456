use Rattle.std.proofs.Common.{◌≡◌, ◌+◌, ◌-◌, ◌*◌, ◌/◌, ◌%◌, List, Bool, ℕ, ap, arith, length, take}
use Rattle.decimal_rank.specs.Rankings.Places.{levels}
use Rattle.rank_trees.specs.Blocks.{count_from}
use Rattle.rank_trees.specs.PlacesOn.{count_on}
use Rattle.rank_trees.proofs.Counts.{count-before, counts-few, counts-long}
use Rattle.rank_trees.proofs.Levels.{levels-le}
use Rattle.rank_trees.proofs.SummedPlaces.{len-is, places-before}
use Rattle.rank_trees.proofs.count_trees.CountTree.below.Goals as goal

pub sum_before-before-requires : goal.sum_before-before-requires
sum_before-before-requires g c =
    let long = len-is count_from 64
    (c.self.inside.len / 64 + 1) c.self.inside.len c.self.inside.places c.self.inside.counts c.self.invariant c.args.self.now c.self.view_is in
    let sums = counts-long c.self.inside.len c.self.inside.places c.self.inside.counts c.self.invariant c.args.self.now c.self.view_is in
    omega (arith, long, sums, c.requires.within)

pub overflow_cast-before : goal.overflow_cast-before
overflow_cast-before g c =
    let long = len-is count_from 64
    (c.self.inside.len / 64 + 1) c.self.inside.len c.self.inside.places c.self.inside.counts c.self.invariant c.args.self.now c.self.view_is in
    let few = counts-few c.self.inside.len c.self.inside.places c.self.inside.counts c.self.invariant c.args.self.now c.self.view_is
    ((c.args.place - 1) / 64) (omega (arith, long, c.requires.within)) in
    omega (arith, c.sum_before-before.ensures.sum, few, long, c.requires.within, c.self.invariant.few)

pub from-word-requires : goal.from-word-requires
from-word-requires g c =
    let long = len-is count_from 64
    (c.self.inside.len / 64 + 1) c.self.inside.len c.self.inside.places c.self.inside.counts c.self.invariant c.args.self.now c.self.view_is in
    omega (arith, long, c.requires.within, c.self.invariant.long)

pub overflow_add-result : goal.overflow_add-result
overflow_add-result g c =
    let long = len-is count_from 64
    (c.self.inside.len / 64 + 1) c.self.inside.len c.self.inside.places c.self.inside.counts c.self.invariant c.args.self.now c.self.view_is in
    let few = counts-few c.self.inside.len c.self.inside.places c.self.inside.counts c.self.invariant c.args.self.now c.self.view_is
    ((c.args.place - 1) / 64) (omega (arith, long, c.requires.within)) in
    omega (arith, c.sum_before-before.ensures.sum, few, long, c.requires.within, c.self.invariant.few, c.count_of.ensures.few)

pub returns-clause-count : goal.returns-clause-count
returns-clause-count g c =
    let long = len-is count_from 64
    (c.self.inside.len / 64 + 1) c.self.inside.len c.self.inside.places c.self.inside.counts c.self.invariant c.args.self.now c.self.view_is in
    let all = count-before c.self.inside.len c.self.inside.places c.self.inside.counts c.self.invariant c.args.self.now c.self.view_is
    ((c.args.place - 1) / 64) ((c.args.place - 1) % 64) (omega (arith, long, c.requires.within)) (omega arith) in
    let e : 64 * ((c.args.place - 1) / 64) + (c.args.place - 1) % 64 ≡ c.args.place - 1 = omega arith in
    let same = ap (λ (n : ℕ). count_on (take n c.self.inside.places)) e in
    let seen = ap (λ (on : List Bool). count_on on)
    (places-before count_from 64 (c.self.inside.len / 64 + 1) c.self.inside.len c.self.inside.places c.self.inside.counts
    c.self.invariant c.args.self.now c.self.view_is (c.args.place - 1) (omega (arith, c.requires.within))) in
    omega (arith, c.sum_before-before.ensures.sum, c.count_of.ensures.count _ c.from-word.ensures.places, all, same, seen)

pub returns-clause-cost : goal.returns-clause-cost
returns-clause-cost g c =
    let long = len-is count_from 64
    (c.self.inside.len / 64 + 1) c.self.inside.len c.self.inside.places c.self.inside.counts c.self.invariant c.args.self.now c.self.view_is in
    let sums = counts-long c.self.inside.len c.self.inside.places c.self.inside.counts c.self.invariant c.args.self.now c.self.view_is in
    let last : length c.self.inside.counts - 1 ≡ c.self.inside.len / 64 = omega (arith, sums) in
    let deep = ap levels last in
    let part = levels-le (c.self.inside.len / 64) (length c.args.self.now) (omega (arith, long)) in
    omega (arith, c.sum_before-before.ensures.cost, c.from-word.ensures.cost, deep, part)
