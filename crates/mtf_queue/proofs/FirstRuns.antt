-- The first run of the order that passes a test.
use Rattle.std.proofs.Common.{◌≡◌, ◌||◌, ◌&&◌, ◌<◌, ◌⊎◌, inl, inr, ℕ, suc, Bool, true, false, cond, List, [], ◌∷◌, Some, None, length, get_or, refl, subst, sym, ap, ◌∙◌, arith, filter, eq-eqb}
use Rattle.std.specs.Prelude.{◌==◌, AllPairs, Contains, IsPermutation}
use Rattle.std.specs.List.{find, list_all}
use Rattle.std.proofs.lemmas.Bool.{eqb-true, or_right}
use Rattle.std.proofs.lemmas.List.Sorted.{Contains-permutation, IsPermutation-sym}
use Rattle.decimal_rank.proofs.Lists.{has_first, has_later, first_or_later, none_there}
use Rattle.depth_pool.specs.Holdings.{Held, pool_holds}
use Rattle.depth_pool.specs.declared.runs.RunId.{RunId}
use Rattle.mtf_queue.specs.declared.rule.Judged.{Judged}
use Rattle.mtf_queue.specs.Rule.{IsBefore, IsInOrder, first_by_trail, is_before_by_trail}
use Rattle.mtf_queue.proofs.RunComparisons.{chain, not_itself}

module _ {X : Type 0} where
  module _ (p : X → Bool) where
    filter_cons : (x : X) (xs : List X) (t : Bool) → p x ≡ t → filter p (x ∷ xs) ≡ cond t (x ∷ filter p xs) (filter p xs)
    filter_cons x xs true is = rw is refl
    filter_cons x xs false is = rw is refl

    passes_in : (xs : List X) (y : X) → Contains xs y → p y ≡ true → Contains (filter p xs) y
    passes_in [] y there passes = absurd (none_there y there)
    passes_in (x ∷ xs) y there passes = step (first_or_later x xs y there) (p x) refl (λ found. passes_in xs y found passes)
      where
        later : (t : Bool) → p x ≡ t → Contains (filter p xs) y → Contains (filter p (x ∷ xs)) y
        later true is found = subst (λ ys. Contains ys y) (sym (filter_cons x xs true is)) (has_later x (filter p xs) y found)
        later false is found = subst (λ ys. Contains ys y) (sym (filter_cons x xs false is)) found

        step : (x ≡ y) ⊎ Contains xs y → (t : Bool) → p x ≡ t → (Contains xs y → Contains (filter p xs) y) → Contains (filter p (x ∷ xs)) y
        step (inl same) t is rest =
            let first : p x ≡ true = ap p same ∙ passes in
            subst (λ ys. Contains ys y) (sym (filter_cons x xs true first)) (subst (λ z. Contains (x ∷ filter p xs) z) same (has_first x (filter p xs)))
        step (inr found) t is rest = later (p x) refl (rest found)

    was_in : (xs : List X) (y : X) → Contains (filter p xs) y → Contains xs y × (p y ≡ true)
    was_in [] y there = absurd (none_there y there)
    was_in (x ∷ xs) y there = step (p x) refl there (was_in xs y)
      where
        keep : Contains xs y × (p y ≡ true) → Contains (x ∷ xs) y × (p y ≡ true)
        keep found = (has_later x xs y found.0, found.1)

        first : p x ≡ true → (x ≡ y) ⊎ Contains (filter p xs) y → (Contains (filter p xs) y → Contains xs y × (p y ≡ true)) → Contains (x ∷ xs) y × (p y ≡ true)
        first is (inl same) rest = (subst (λ z. Contains (x ∷ xs) z) same (has_first x xs), ap p (sym same) ∙ is)
        first is (inr found) rest = keep (rest found)

        step : (t : Bool) → p x ≡ t → Contains (filter p (x ∷ xs)) y → (Contains (filter p xs) y → Contains xs y × (p y ≡ true))
            → Contains (x ∷ xs) y × (p y ≡ true)
        step true is found rest = first is (first_or_later x (filter p xs) y (subst (λ ys. Contains ys y) (filter_cons x xs true is) found)) rest
        step false is found rest = keep (rest (subst (λ ys. Contains ys y) (filter_cons x xs false is) found))

    all_from : (xs : List X) → ((y : X) → Contains xs y → p y ≡ true) → list_all p xs ≡ true
    all_from [] each = refl
    all_from (x ∷ xs) each = ap (λ t. t && list_all p xs) (each x (has_first x xs)) ∙ all_from xs (λ y there. each y (has_later x xs y there))

    all_at : (xs : List X) (y : X) → list_all p xs ≡ true → Contains xs y → p y ≡ true
    all_at [] y all there = absurd (none_there y there)
    all_at (x ∷ xs) y all there = step (p x) refl all (first_or_later x xs y there) (all_at xs y)
      where
        step : (t : Bool) → p x ≡ t → (t && list_all p xs) ≡ true → (x ≡ y) ⊎ Contains xs y → (list_all p xs ≡ true → Contains xs y → p y ≡ true) → p y ≡ true
        step true is all (inl same) rest = ap p (sym same) ∙ is
        step true is all (inr found) rest = rest all found
        step false is all found rest = cc all

    -- the one element that passes is found
    find_one : (xs : List X) (c : X) → Contains xs c → p c ≡ true → ((y : X) → Contains xs y → p y ≡ true → y ≡ c) → find p xs ≡ Some c
    find_one [] c there passes only = absurd (none_there c there)
    find_one (x ∷ xs) c there passes only =
        step (p x) refl (first_or_later x xs c there) (λ found. find_one xs c found passes (λ y inside. only y (has_later x xs y inside)))
      where
        step : (t : Bool) → p x ≡ t → (x ≡ c) ⊎ Contains xs c → (Contains xs c → find p xs ≡ Some c) → cond (p x) (Some x) (find p xs) ≡ Some c
        step true is found rest = ap (λ t. cond t (Some x) (find p xs)) is ∙ ap (λ z. Some z) (only x (has_first x xs) is)
        step false is (inl same) rest = let both : p x ≡ true = ap p same ∙ passes in cc (is, both)
        step false is (inr found) rest = ap (λ t. cond t (Some x) (find p xs)) is ∙ rest found

    find_cons : (x : X) (xs : List X) (t : Bool) → p x ≡ t → find p (x ∷ xs) ≡ cond t (Some x) (find p xs)
    find_cons x xs t is = ap (λ t. cond t (Some x) (find p xs)) is

    find_none : (xs : List X) → ((y : X) → Contains xs y → ⊥) → find p xs ≡ None
    find_none [] none = refl
    find_none (x ∷ xs) none = absurd (none x (has_first x xs))

same_run : (r s : RunId) → (r.0 == s.0) ≡ true → r ≡ s
same_run r s same = let e : r.0 ≡ s.0 = eqb-true r.0 s.0 same in ap (λ (n : ℕ). let run : RunId = record { 0 = n } in run) e

module _ (runs : List Held) (trail : List Judged) (passes : RunId → Bool) (candidates : List RunId) where
  abbrev before : RunId → RunId → Bool
  before r s = is_before_by_trail (λ run. run.0) (λ judged. judged.relevant) (λ run judged. pool_holds runs run judged.doc) trail r s

  abbrev leads : RunId → Bool
  leads r = list_all (λ s. (r.0 == s.0) || before r s) candidates

  -- where the candidates are those of the order that pass
  first_leads : (order : List RunId) → AllPairs (IsBefore (pool_holds runs) trail) order
      → ((s : RunId) → Contains candidates s → Contains order s × (passes s ≡ true))
      → ((s : RunId) → Contains order s → passes s ≡ true → Contains candidates s)
      → find passes order ≡ find leads candidates
  first_leads [] sorted inside all = sym (find_none leads candidates (λ s there. none_there s (inside s there).0))
  first_leads (x ∷ order) sorted inside all = step (passes x) refl (λ absent. first_leads order rest absent (λ s there. all s (has_later x order s there)))
    where
      rest : AllPairs (IsBefore (pool_holds runs) trail) order
      rest i j d less within = sorted (suc i) (suc j) d (omega (arith, less)) (omega (arith, within))

      at_later : (s : RunId) (k : ℕ) → k < length order → get_or order k s ≡ s → before x s ≡ true
      at_later s k within is = subst (λ z. before x z ≡ true) is (sorted 0 (suc k) s (omega arith) (omega (arith, within)))

      later : (s : RunId) → Contains order s → before x s ≡ true
      later s there = at_later s there.0 there.1 there.2

      led : (s : RunId) → (x ≡ s) ⊎ Contains order s → ((x.0 == s.0) || before x s) ≡ true
      led s (inl same) = ap (λ t. t || before x s) (eq-eqb x.0 s.0 (ap (λ (r : RunId). r.0) same))
      led s (inr there) = or_right (x.0 == s.0) (before x s) (later s there)

      tie : (y : RunId) (t u : Bool) → (y.0 == x.0) ≡ t → before y x ≡ u → (t || u) ≡ true → Contains order y → y ≡ x
      tie y true u same is either there = same_run y x same
      tie y false true same is either there = absurd (not_itself (pool_holds runs) trail x (chain (pool_holds runs) trail x y x (later y there) is))
      tie y false false same is either there = cc either

      only : (y : RunId) → (x ≡ y) ⊎ Contains order y → leads y ≡ true → Contains candidates x → y ≡ x
      only y (inl same) first there = sym same
      only y (inr inner) first there = tie y (y.0 == x.0) (before y x) refl refl (all_at (λ s. (y.0 == s.0) || before y s) candidates x first there) inner

      tail_only : passes x ≡ false → (s : RunId) → (x ≡ s) ⊎ Contains order s → passes s ≡ true → Contains order s
      tail_only fails s (inl same) good = let both : passes x ≡ true = ap passes same ∙ good in cc (fails, both)
      tail_only fails s (inr there) good = there

      step : (t : Bool) → passes x ≡ t
          → (((s : RunId) → Contains candidates s → Contains order s × (passes s ≡ true)) → find passes order ≡ find leads candidates)
          → find passes (x ∷ order) ≡ find leads candidates
      step true is next =
          let there : Contains candidates x = all x (has_first x order) is in
          find_cons passes x order true is
          ∙ sym (find_one leads candidates x there
          (all_from (λ s. (x.0 == s.0) || before x s) candidates (λ s inner. led s (first_or_later x order s (inside s inner).0)))
          (λ y inner first. only y (first_or_later x order y (inside y inner).0) first there))
      step false is next =
          find_cons passes x order false is
          ∙ next (λ s there. (tail_only is s (first_or_later x order s (inside s there).0) (inside s there).1, (inside s there).1))

pub first-passes : (runs : List Held) (trail : List Judged) (order all : List RunId) (passes : RunId → Bool)
    → IsInOrder runs trail order → IsPermutation all order → find passes order ≡ first_by_trail runs trail (filter passes all)
first-passes runs trail order all passes sorted same =
    first_leads runs trail passes (filter passes all) order sorted.pairwise
    (λ s there. (Contains-permutation all order s same (was_in passes all s there).0, (was_in passes all s there).1))
    (λ s there good. passes_in passes all s (Contains-permutation order all s (IsPermutation-sym all order same) there) good)
