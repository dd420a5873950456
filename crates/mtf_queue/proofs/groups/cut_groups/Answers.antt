use Rattle.std.proofs.Common.{◌≡◌, ◌-◌, ◌<◌, ◌≤◌, ◌∷◌, arith, ap, drop, get_or, inl, inr, length, refl, None, map, subst, sym, ◌∙◌}
use Rattle.std.specs.List.{AllPairs}
use Rattle.std.specs.List.Sorted.{IsPermutation}
use Rattle.std.proofs.lemmas.Bool.{false≢true}
use Rattle.std.proofs.lemmas.List.{drop_all, drop_more}
use Rattle.std.proofs.lemmas.List.Sorted.{IsPermutation-map}
use Rattle.depth_pool.specs.Holdings.{pool_holds}
use Rattle.mtf_queue.specs.Groups.{AreGrouped, member_run}
use Rattle.mtf_queue.specs.declared.rule.Judged.{Judged}
use Rattle.mtf_queue.proofs.GroupOrder.{grouped_permuted, in_order_grouped, one_few, one_group, sorted_pairs, told_apart_permuted}
use Rattle.mtf_queue.proofs.groups.cut_groups.Goals as goal
use Rattle.mtf_queue.proofs.groups.cut_groups.Goals.{then-loop-left-test+else-are_tied, else-loop-left-test}

pub loop-left-init : goal.loop-left-init
loop-left-init g c =
    let members = c.args.members.now.items in
    let held = pool_holds c.args.pool.now.runs in (
      omega arith,
      subst (λ docs. AreGrouped held docs members) (sym (drop_all (length c.args.trail.now) c.args.trail.now (omega arith)))
          (one_group held members c.requires.one_group),
      one_few members c.requires.one_group,
      refl,
      λ e. absurd (false≢true (sym e)),
      refl,
      omega arith,
    )

pub loop-left-preserved : goal.loop-left-preserved
loop-left-preserved g c =
    let was = c.loop-left.invariant in
    let trail = c.args.trail.now in
    let left = c.loop-left.left in
    let within : left - 1 < length trail = omega (arith, was.0, c.loop-left-test.true) in
    let now = c.cut_by-are_tied.ensures in
    let none : Judged = record { doc = record { 0 = 0 }; relevant = None } in
    let read : get_or trail (left - 1) none ∷ drop left trail ≡ drop (left - 1) trail =
    ap (λ n. get_or trail (left - 1) none ∷ drop n trail) (omega (arith, c.loop-left-test.true)) ∙ sym (drop_more trail (left - 1) none within) in (
      omega (arith, was.0),
      subst (λ docs. AreGrouped (pool_holds c.args.pool.now.runs) docs c.cut_by-are_tied.new.members.items) read (now.grouped (drop left trail) was.1),
      now.few,
      now.runs ∙ was.3,
      now.told_apart,
      now.capacity ∙ was.5,
      omega (arith, now.room_stays, was.6),
    )

pub cut_by-are_tied-requires-clause-by_run : goal.cut_by-are_tied-requires-clause-by_run
cut_by-are_tied-requires-clause-by_run g c = subst (AllPairs (λ r s. r.0 ≤ s.0)) (sym c.loop-left.invariant.3) c.requires.by_run

pub returns-clause-runs : goal.returns-clause-runs
returns-clause-runs g c =
    subst (λ runs. IsPermutation runs (map member_run c.sort_unstable.new.self.items)) c.loop-left.invariant.3
    (IsPermutation-map member_run c.loop-left.members.items c.sort_unstable.new.self.items c.sort_unstable.ensures.permutation)

pub returns-clause-pairwise : goal.returns-clause-pairwise
returns-clause-pairwise g c = λ differ.
    let was = c.loop-left.invariant in
    let held = pool_holds c.args.pool.now.runs in
    let docs = drop c.loop-left.left c.args.trail.now in
    let members = c.loop-left.members.items in
    let sorted = c.sort_unstable.new.self.items in
    let permuted = c.sort_unstable.ensures.permutation in
    in_order_grouped held c.args.trail.now c.loop-left.left sorted (grouped_permuted held docs members sorted permuted was.1)
    (sorted_pairs sorted c.sort_unstable.ensures.sorted)
    (elim c.loop-left-test.branch [
      | then-loop-left-test+else-are_tied w ↦ inr (told_apart_permuted members sorted permuted (was.4 w.if-are_tied.false))
      | else-loop-left-test w ↦ inl (omega (arith, w.loop-left-test.false))
    ]) differ
