-- Binary searches among holders that ascend, and among runs by number.
use Rattle.std.proofs.Common.{◌≡◌, ℕ, ◌+◌, ◌<◌, ◌≤◌, Bool, true, false, ltb, eqb, List, [], length, get_or, Result, Ok, Err, is_ok, refl, sym, ap, ◌∙◌, arith, Less, Equal, Greater}
use Rattle.std.specs.List.{HoldsAt, list_any, position_or_len, AllPairs}
use Rattle.std.specs.List.Sorted.{IsSortedBy, IsBinarySearchResult, IsSearchInRange}
use Rattle.std.specs.Ordering.{nat_cmp, is_eq, is_lt}
use Rattle.std.proofs.lemmas.Bool.Decides.{nat_tests}
use Rattle.std.proofs.lemmas.Cmp.{nat_cmp_total}
use Rattle.std.proofs.lemmas.List.Folds.{list_any_at, list_any_none}
use Rattle.std.proofs.lemmas.List.Sums.{position_or_len_is}
use Rattle.std.proofs.lemmas.List.Sorted.{searchable_from_sorted}
use borrow.Author.Tests.{eqb-true, ltb-true}
use Rattle.decimal_rank.proofs.TruthValues.{above_is_not_less, eqb_below}
use Rattle.depth_pool.specs.declared.runs.RunId.{RunId}
use Rattle.depth_pool.specs.Holdings.{AreByNumber, Held}
use Rattle.depth_pool.proofs.Writes.{is_eq-nat_cmp}

at_least : (k i : ℕ) → ltb k i ≡ false → i ≤ k
at_least k i e = grind (arith, nat_tests)

pub found_among : (run : RunId) (holders : List RunId) (found : Result ℕ ℕ) → AllPairs (λ a b. a.0 < b.0) holders
    → IsBinarySearchResult (λ y. nat_cmp y.0 run.0) holders found → IsSearchInRange found (length holders)
    → is_ok found ≡ list_any (λ holder. eqb holder.0 run.0) holders
found_among run holders (Ok i) ascending told within =
    sym (list_any_at (λ holder. eqb holder.0 run.0) holders i run within (sym (is_eq-nat_cmp (get_or holders i run).0 run.0) ∙ ap is_eq (told run)))
found_among run holders (Err i) ascending told within =
    let sorted : IsSortedBy (λ (a b : RunId). is_lt (nat_cmp a.0 b.0)) holders = λ k d _ h. above_is_not_less _ _ (ascending k (k + 1) d (omega arith) h) in
    let parts = told (searchable_from_sorted nat_cmp_total (λ (holder : RunId). holder.0) holders run.0 sorted) in
    sym (list_any_none (λ holder. eqb holder.0 run.0) holders (λ k d h. step k d h (ltb k i) refl parts.0 parts.1))
  where
    step : (k : ℕ) (d : RunId) → k < length holders → (t : Bool) → ltb k i ≡ t
        → ((k : ℕ) (d : RunId) → 0 ≤ k → k < i → nat_cmp (get_or holders k d).0 run.0 ≡ Less)
        → ((k : ℕ) (d : RunId) → i ≤ k → k < length holders → nat_cmp (get_or holders k d).0 run.0 ≡ Greater)
        → eqb (get_or holders k d).0 run.0 ≡ false
    step k d h true e less greater = sym (is_eq-nat_cmp (get_or holders k d).0 run.0) ∙ ap is_eq (less k d (omega arith) (ltb-true k i e))
    step k d h false e less greater = sym (is_eq-nat_cmp (get_or holders k d).0 run.0) ∙ ap is_eq (greater k d (at_least k i e) h)

-- ---- the index of a run among runs by number

is_equal : (m n : ℕ) → nat_cmp m n ≡ Equal → eqb m n ≡ true
is_equal m n e = sym (is_eq-nat_cmp m n) ∙ ap is_eq e

pub found_at : (run : RunId) (runs : List Held) (i : ℕ) → AreByNumber runs → i < length runs
    → HoldsAt (λ held. nat_cmp held.run.0 run.0 ≡ Equal) runs i → i ≡ position_or_len (λ held. eqb held.run.0 run.0) runs
found_at run runs i by_number within here =
    let none : Held = record { run = run; docs = [] } in
    sym (position_or_len_is (λ held. eqb held.run.0 run.0) runs i none (omega arith)
    (λ k h. eqb_below (get_or runs k none).run.0 run.0 (below k none h)) (λ h. is_equal (get_or runs i none).run.0 run.0 (here none)))
  where
    below : (k : ℕ) (d : Held) → k < i → (get_or runs k d).run.0 < run.0
    below k d h = omega (arith, by_number k i d h within, eqb-true (get_or runs i d).run.0 run.0 (is_equal (get_or runs i d).run.0 run.0 (here d)))

pub found_nowhere : (run : RunId) (runs : List Held) (found : ℕ) → AreByNumber runs
    → IsBinarySearchResult (λ (held : Held). nat_cmp held.run.0 run.0) runs (Err found) → length runs ≡ position_or_len (λ held. eqb held.run.0 run.0) runs
found_nowhere run runs found by_number told =
    let none : Held = record { run = run; docs = [] } in
    let sorted : IsSortedBy (λ (a b : Held). is_lt (nat_cmp a.run.0 b.run.0)) runs = λ k d _ h. above_is_not_less _ _ (by_number k (k + 1) d (omega arith) h) in
    let parts = told (searchable_from_sorted nat_cmp_total (λ (held : Held). held.run.0) runs run.0 sorted) in
    sym (position_or_len_is (λ held. eqb held.run.0 run.0) runs (length runs) none (omega arith)
    (λ k h. other k none h (ltb k found) refl parts.0 parts.1) (λ h. absurd (omega arith)))
  where
    other : (k : ℕ) (d : Held) → k < length runs → (t : Bool) → ltb k found ≡ t
        → ((k : ℕ) (d : Held) → 0 ≤ k → k < found → nat_cmp (get_or runs k d).run.0 run.0 ≡ Less)
        → ((k : ℕ) (d : Held) → found ≤ k → k < length runs → nat_cmp (get_or runs k d).run.0 run.0 ≡ Greater)
        → eqb (get_or runs k d).run.0 run.0 ≡ false
    other k d h true e less greater = sym (is_eq-nat_cmp (get_or runs k d).run.0 run.0) ∙ ap is_eq (less k d (omega arith) (ltb-true k found e))
    other k d h false e less greater = sym (is_eq-nat_cmp (get_or runs k d).run.0 run.0) ∙ ap is_eq (greater k d (at_least k found e) h)
