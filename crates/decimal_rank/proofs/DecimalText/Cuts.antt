-- Where a list is cut at its first element that passes a test.
use Rattle.std.proofs.Common.{◌≡◌, ℕ, ◌<◌, ◌≤◌, Bool, true, false, cond, ltb, List, [], length, take, drop, refl, ap, ◌∙◌, ◌+◌, ◌-◌, length-drop, arith, Option, Some, None}
use Rattle.std.specs.Prelude.{position}
use Rattle.std.specs.List.{list_any, position_or_len, after_first}
use Rattle.std.proofs.lemmas.Bool.Decides.{nat_tests}
use Rattle.std.proofs.lemmas.List.{drop_all, take_all}
use Rattle.std.proofs.lemmas.List.Folds.{list_any_at, list_any_none}
use Rattle.std.proofs.lemmas.List.Sums.{passes_at_first, fails_before_first}

within : (p : ℕ → Bool) (xs : List ℕ) (i : ℕ) → position p xs ≡ Some i → (position_or_len p xs < length xs) × (i ≡ position_or_len p xs)
within p xs i is = by (ltb (position_or_len p xs) (length xs)) refl is
  where
    by : (t : Bool) → ltb (position_or_len p xs) (length xs) ≡ t → cond t (Some (position_or_len p xs)) None ≡ Some i
        → (position_or_len p xs < length xs) × (i ≡ position_or_len p xs)
    by true e is = (grind (arith, nat_tests), cc)
    by false e is = absurd (cc)

past : (p : ℕ → Bool) (xs : List ℕ) → position p xs ≡ None → length xs ≤ position_or_len p xs
past p xs is = by (ltb (position_or_len p xs) (length xs)) refl is
  where
    by : (t : Bool) → ltb (position_or_len p xs) (length xs) ≡ t → cond t (Some (position_or_len p xs)) None ≡ None → length xs ≤ position_or_len p xs
    by true e is = absurd (cc)
    by false e is = grind (arith, nat_tests)

pub any_at_place : (p : ℕ → Bool) (xs : List ℕ) (i : ℕ) → position p xs ≡ Some i → list_any p xs ≡ true
any_at_place p xs i is =
    let w = within p xs i is in
    list_any_at p xs (position_or_len p xs) 0 w.0 (passes_at_first p xs 0 w.0)

pub none_without_place : (p : ℕ → Bool) (xs : List ℕ) → position p xs ≡ None → (list_any p xs ≡ false) × (after_first p xs ≡ [])
none_without_place p xs is =
    let long = past p xs is in
    (list_any_none p xs (λ k d inside. fails_before_first p xs k d (omega arith)), drop_all _ xs (omega arith))

pub behind_place : (p : ℕ → Bool) (xs : List ℕ) (i : ℕ) → position p xs ≡ Some i → take (length xs - (i + 1)) (drop (i + 1) xs) ≡ after_first p xs
behind_place p xs i is =
    let w = within p xs i is in
    take_all (length xs - (i + 1)) (drop (i + 1) xs) (omega (arith, length-drop (i + 1) xs)) ∙ ap (λ n. drop (n + 1) xs) w.1

-- where nothing passes, nothing stands behind
pub none_behind : (p : ℕ → Bool) (xs : List ℕ) → list_any p xs ≡ false → after_first p xs ≡ []
none_behind p xs none = by (position p xs) refl
  where
    by : (at : Option ℕ) → position p xs ≡ at → after_first p xs ≡ []
    by (Some i) is = absurd (let some = any_at_place p xs i is in cc)
    by None is = (none_without_place p xs is).1
