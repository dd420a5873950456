use Rattle.std.proofs.Common.{◌≡◌, ◌∙◌, ◌+◌, ◌-◌, ℕ, Bool, List, ap, arith, false, map, not, refl, set, subst, sym, take, true}
use Rattle.std.proofs.lemmas.List.{length-set}
use Rattle.measures.specs.Cells.{cutoffs}
use Rattle.rank_trees.specs.PlacesOn.{count_on}
use Rattle.score_index.specs.KeptSums.{AreSums, with_relevant}
use Rattle.score_index.specs.declared.sums.Sums.{Sums}
use Rattle.score_index.proofs.Cells.MovedSums.{places_of, same_sums}
use Rattle.score_index.proofs.Cells.SumSteps.{at-few, at-with, gain-small, gain-sum, left-sum, one-more, preferences-fit, stays-off}
use Rattle.score_index.proofs.sums.moved_relevant.Given.{Over}
use Rattle.score_index.proofs.sums.moved_relevant.Goals.{After-moved_counts-at}
use Rattle.score_index.proofs.sums.moved_relevant.Goals as goal

at_is : (g : Over) (c : After-moved_counts-at g)
    → c.moved_counts-at.result ≡ map (λ (k : ℕ). count_on (take k (set c.args.trees.now.relevant (c.args.place - 1) c.args.on))) cutoffs
at_is g c =
    let relevant = c.args.trees.now.relevant in
    let off = c.requires.off in
    c.moved_counts-at.ensures (λ (k : ℕ). count_on (take k relevant))
    (c.requires.sums.at ∙ sym (at-with relevant c.args.place off.0 off.1 off.2 (not c.args.on))) ∙ at-with relevant c.args.place off.0 off.1 off.2 c.args.on

-- the sums of the trees, where the place becomes relevant
of_trees : (g : Over) (c : After-moved_counts-at g) → c.args.on ≡ true → AreSums c.args.cap c.args.trees.now c.args.sums
of_trees g c on =
    let relevant = c.args.trees.now.relevant in
    let off = c.requires.off in
    same_sums c.args.cap (set relevant (c.args.place - 1) false) c.args.trees.now.lower relevant c.args.trees.now.lower c.args.sums
    (stays-off relevant c.args.place off.0 off.1 off.2) refl
    (subst (λ b. AreSums c.args.cap (with_relevant c.args.place (not b) c.args.trees.now) c.args.sums) on c.requires.sums)

-- the sums with the place, where it no longer is
with_place : (g : Over) (c : After-moved_counts-at g) → c.args.on ≡ false → AreSums c.args.cap (with_relevant c.args.place true c.args.trees.now) c.args.sums
with_place g c on = subst (λ b. AreSums c.args.cap (with_relevant c.args.place (not b) c.args.trees.now) c.args.sums) on c.requires.sums

pub moved_counts-at-requires : goal.moved_counts-at-requires
moved_counts-at-requires g c = at-few (set c.args.trees.now.relevant (c.args.place - 1) (not c.args.on)) c.args.sums.at c.requires.sums.few c.requires.sums.at

pub overflow_add-result-then-on : goal.overflow_add-result-then-on
overflow_add-result-then-on g c =
    let are = of_trees g (goal.at.overflow_add-result-then-on g c).After-moved_counts-at c.if-on.true in
    let off = c.requires.off in
    omega (arith, are.ap_sum, c.precision_gain-gain.ensures.gain, gain-small c.args.trees.now.relevant c.args.place off.0 off.1 off.2 are.few)

pub overflow_add-result-then-on-2 : goal.overflow_add-result-then-on-2
overflow_add-result-then-on-2 g c =
    let are = of_trees g (goal.at.overflow_add-result-then-on-2 g c).After-moved_counts-at c.if-on.true in
    omega (
      arith,
      are.preferences,
      c.left_above-left.ensures.left,
      c.requires.few,
      preferences-fit c.args.cap c.args.trees.now.relevant c.args.trees.now.lower are.few c.requires.few,
    )

pub returns-then-on-clause-sums : goal.returns-then-on-clause-sums
returns-then-on-clause-sums g c =
    let all = (goal.at.returns-then-on-clause-sums g c).After-moved_counts-at in
    let are = of_trees g all c.if-on.true in
    let on = c.args.trees.now.relevant in
    let off = c.requires.off in
    let result : Sums = record {
      rel_ret = c.args.sums.rel_ret + 1;
      at = c.moved_counts-at.result;
      ap_sum = c.args.sums.ap_sum + c.precision_gain-gain.result;
      preferences = c.args.sums.preferences + c.left_above-left.result;
    } in
    subst (λ b. AreSums c.args.cap (with_relevant c.args.place b c.args.trees.now) result) (sym c.if-on.true)
    (record {
      few = omega (arith, are.few, length-set on (c.args.place - 1) true);
      long = are.long ∙ sym (length-set on (c.args.place - 1) true);
      rel_ret = ap (λ (n : ℕ). n + 1) are.rel_ret ∙ sym (one-more on c.args.place off.0 off.1 off.2);
      at = subst (λ b. c.moved_counts-at.result ≡ map (λ (k : ℕ). count_on (take k (set on (c.args.place - 1) b))) cutoffs) c.if-on.true (at_is g all);
      ap_sum = omega (arith, are.ap_sum, c.precision_gain-gain.ensures.gain, gain-sum on c.args.place off.0 off.1 off.2);
      preferences = omega
          (arith, are.preferences, c.left_above-left.ensures.left, left-sum on c.args.place off.0 off.1 off.2 c.args.cap c.args.trees.now.lower are.long);
    })

pub overflow_sub-result-2 : goal.overflow_sub-result-2
overflow_sub-result-2 g c =
    let are = with_place g (goal.at.overflow_sub-result-2 g c).After-moved_counts-at c.if-on.false in
    let off = c.requires.off in
    omega (arith, are.ap_sum, c.precision_gain-gain.ensures.gain, gain-sum c.args.trees.now.relevant c.args.place off.0 off.1 off.2)

pub overflow_sub-result-3 : goal.overflow_sub-result-3
overflow_sub-result-3 g c =
    let are = with_place g (goal.at.overflow_sub-result-3 g c).After-moved_counts-at c.if-on.false in
    let off = c.requires.off in
    let long = are.long ∙ length-set c.args.trees.now.relevant (c.args.place - 1) true in
    omega (
      arith,
      are.preferences,
      c.left_above-left.ensures.left,
      left-sum c.args.trees.now.relevant c.args.place off.0 off.1 off.2 c.args.cap c.args.trees.now.lower long,
    )

pub returns-clause-sums : goal.returns-clause-sums
returns-clause-sums g c =
    let all = (goal.at.returns-clause-sums g c).After-moved_counts-at in
    let are = with_place g all c.if-on.false in
    let on = c.args.trees.now.relevant in
    let off = c.requires.off in
    let long = are.long ∙ length-set on (c.args.place - 1) true in
    let same = stays-off on c.args.place off.0 off.1 off.2 in
    let result : Sums = record {
      rel_ret = c.args.sums.rel_ret - 1;
      at = c.moved_counts-at.result;
      ap_sum = c.args.sums.ap_sum - c.precision_gain-gain.result;
      preferences = c.args.sums.preferences - c.left_above-left.result;
    } in
    subst (λ b. AreSums c.args.cap (with_relevant c.args.place b c.args.trees.now) result) (sym c.if-on.false)
    (subst (λ (relevant : List Bool). AreSums c.args.cap (places_of relevant c.args.trees.now.lower) result) (sym same)
    (record {
      few = omega (arith, are.few, length-set on (c.args.place - 1) true);
      long = long;
      rel_ret = omega (arith, are.rel_ret, one-more on c.args.place off.0 off.1 off.2);
      at = subst (λ b. c.moved_counts-at.result ≡ map (λ (k : ℕ). count_on (take k (set on (c.args.place - 1) b))) cutoffs) c.if-on.false (at_is g all)
          ∙ ap (λ (relevant : List Bool). map (λ (k : ℕ). count_on (take k relevant)) cutoffs) same;
      ap_sum = omega (arith, are.ap_sum, c.precision_gain-gain.ensures.gain, gain-sum on c.args.place off.0 off.1 off.2);
      preferences = omega
          (arith, are.preferences, c.left_above-left.ensures.left, left-sum on c.args.place off.0 off.1 off.2 c.args.cap c.args.trees.now.lower long);
    }))
