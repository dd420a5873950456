use Rattle.std.proofs.Common.{◌≡◌, ◌+◌, ◌-◌, ◌*◌, ◌/◌, ◌%◌, ℕ, ap, arith, drop, length, subst}
use Rattle.std.proofs.lemmas.List.{length-take}
use Rattle.decimal_rank.specs.Rankings.Places.{levels}
use Rattle.rank_trees.specs.Blocks.{count_from}
use Rattle.rank_trees.specs.SumTrees.{IsReached}
use Rattle.rank_trees.proofs.Counts.{block-within, counts-long, none-selected, rest-few, selected, selected-within}
use Rattle.rank_trees.proofs.Levels.{levels-le, levels-part}
use Rattle.rank_trees.proofs.SummedPlaces.{len-is}
use Rattle.rank_trees.proofs.count_trees.CountTree.select.Goals as goal

pub overflow_mul-block : goal.overflow_mul-block
overflow_mul-block g c =
    let reached : IsReached c.self.inside.counts c.args.j c.in-Some.found.0 c.in-Some.found.1 =
    subst (λ (n : ℕ). IsReached c.self.inside.counts n c.in-Some.found.0 c.in-Some.found.1) c.from-number.ensures c.in-Some.ensures.leaf in
    let within =
    block-within c.self.inside.len c.self.inside.places c.self.inside.counts c.self.invariant c.args.self.now
    c.self.view_is c.args.j c.in-Some.found.0 c.in-Some.found.1 reached in
    omega (arith, within, c.self.invariant.few)

pub from-word-requires : goal.from-word-requires
from-word-requires g c =
    let reached : IsReached c.self.inside.counts c.args.j c.in-Some.found.0 c.in-Some.found.1 =
    subst (λ (n : ℕ). IsReached c.self.inside.counts n c.in-Some.found.0 c.in-Some.found.1) c.from-number.ensures c.in-Some.ensures.leaf in
    let within =
    block-within c.self.inside.len c.self.inside.places c.self.inside.counts c.self.invariant c.args.self.now
    c.self.view_is c.args.j c.in-Some.found.0 c.in-Some.found.1 reached in
    omega (arith, within, c.self.invariant.long)

pub returns-in-None-clause-place : goal.returns-in-None-clause-place
returns-in-None-clause-place g c =
    none-selected c.self.inside.len c.self.inside.places c.self.inside.counts c.self.invariant c.args.self.now c.self.view_is c.args.j
    (omega (arith, c.in-None.ensures.leaf, c.from-number.ensures))

pub returns-in-None-clause-cost : goal.returns-in-None-clause-cost
returns-in-None-clause-cost g c =
    let long = len-is count_from 64
    (c.self.inside.len / 64 + 1) c.self.inside.len c.self.inside.places c.self.inside.counts c.self.invariant c.args.self.now c.self.view_is in
    let sums = counts-long c.self.inside.len c.self.inside.places c.self.inside.counts c.self.invariant c.args.self.now c.self.view_is in
    let last : length c.self.inside.counts - 1 ≡ c.self.inside.len / 64 = omega (arith, sums) in
    let deep = ap levels last in
    let part = levels-le (c.self.inside.len / 64) (length c.args.self.now) (omega (arith, long)) in
    omega (arith, c.find.ensures.cost, deep, part)

pub overflow_mul-result : goal.overflow_mul-result
overflow_mul-result g c =
    let reached : IsReached c.self.inside.counts c.args.j c.in-Some.found.0 c.in-Some.found.1 =
    subst (λ (n : ℕ). IsReached c.self.inside.counts n c.in-Some.found.0 c.in-Some.found.1) c.from-number.ensures c.in-Some.ensures.leaf in
    let within =
    block-within c.self.inside.len c.self.inside.places c.self.inside.counts c.self.invariant c.args.self.now
    c.self.view_is c.args.j c.in-Some.found.0 c.in-Some.found.1 reached in
    omega (arith, within, c.self.invariant.few)

pub overflow_add-result : goal.overflow_add-result
overflow_add-result g c =
    let reached : IsReached c.self.inside.counts c.args.j c.in-Some.found.0 c.in-Some.found.1 =
    subst (λ (n : ℕ). IsReached c.self.inside.counts n c.in-Some.found.0 c.in-Some.found.1) c.from-number.ensures c.in-Some.ensures.leaf in
    let within =
    block-within c.self.inside.len c.self.inside.places c.self.inside.counts c.self.invariant c.args.self.now
    c.self.view_is c.args.j c.in-Some.found.0 c.in-Some.found.1 reached in
    omega (arith, within, c.self.invariant.few, c.nth_on.ensures.few)

pub overflow_add-result-in-Some : goal.overflow_add-result-in-Some
overflow_add-result-in-Some g c =
    let reached : IsReached c.self.inside.counts c.args.j c.in-Some.found.0 c.in-Some.found.1 =
    subst (λ (n : ℕ). IsReached c.self.inside.counts n c.in-Some.found.0 c.in-Some.found.1) c.from-number.ensures c.in-Some.ensures.leaf in
    let within =
    block-within c.self.inside.len c.self.inside.places c.self.inside.counts c.self.invariant c.args.self.now
    c.self.view_is c.args.j c.in-Some.found.0 c.in-Some.found.1 reached in
    omega (arith, within, c.self.invariant.few, c.nth_on.ensures.few)

pub returns-in-Some-clause-place : goal.returns-in-Some-clause-place
returns-in-Some-clause-place g c =
    let reached : IsReached c.self.inside.counts c.args.j c.in-Some.found.0 c.in-Some.found.1 =
    subst (λ (n : ℕ). IsReached c.self.inside.counts n c.in-Some.found.0 c.in-Some.found.1) c.from-number.ensures c.in-Some.ensures.leaf in
    let nth = c.nth_on.ensures.place _ c.from-word.ensures.places
    (omega (arith, length-take (64 - 64 * c.in-Some.found.0 % 64) (drop (64 * c.in-Some.found.0) c.self.inside.places)))
    (rest-few c.self.inside.len c.self.inside.places c.self.inside.counts c.self.invariant c.args.self.now
    c.self.view_is c.args.j c.in-Some.found.0 c.in-Some.found.1 reached) in
    selected c.self.inside.len c.self.inside.places c.self.inside.counts c.self.invariant c.args.self.now c.self.view_is
    c.args.j c.in-Some.found.0 c.in-Some.found.1 reached c.nth_on.result nth

pub returns-in-Some-clause-cost : goal.returns-in-Some-clause-cost
returns-in-Some-clause-cost g c =
    let reached : IsReached c.self.inside.counts c.args.j c.in-Some.found.0 c.in-Some.found.1 =
    subst (λ (n : ℕ). IsReached c.self.inside.counts n c.in-Some.found.0 c.in-Some.found.1) c.from-number.ensures c.in-Some.ensures.leaf in
    let nth = c.nth_on.ensures.place _ c.from-word.ensures.places
    (omega (arith, length-take (64 - 64 * c.in-Some.found.0 % 64) (drop (64 * c.in-Some.found.0) c.self.inside.places)))
    (rest-few c.self.inside.len c.self.inside.places c.self.inside.counts c.self.invariant c.args.self.now
    c.self.view_is c.args.j c.in-Some.found.0 c.in-Some.found.1 reached) in
    let long = len-is count_from 64
    (c.self.inside.len / 64 + 1) c.self.inside.len c.self.inside.places c.self.inside.counts c.self.invariant c.args.self.now c.self.view_is in
    let sums = counts-long c.self.inside.len c.self.inside.places c.self.inside.counts c.self.invariant c.args.self.now c.self.view_is in
    let last : length c.self.inside.counts - 1 ≡ c.self.inside.len / 64 = omega (arith, sums) in
    let deep = ap levels last in
    let within =
    selected-within c.self.inside.len c.self.inside.places c.self.inside.counts c.self.invariant c.args.self.now c.self.view_is
    c.args.j c.in-Some.found.0 c.in-Some.found.1 reached c.nth_on.result nth in
    let part = levels-part (c.self.inside.len / 64) (length c.args.self.now) (omega (arith, long, within)) (omega (arith, long)) in
    omega (arith, c.find.ensures.cost, c.from-word.ensures.cost, deep, part)
