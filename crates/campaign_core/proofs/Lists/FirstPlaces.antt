-- The first element of a list that passes a test.
use Rattle.std.proofs.Common.{◌≡◌, ◌||◌, ◌<◌, ◌+◌, ℕ, zero, suc, Bool, true, false, not, cond, List, [], ◌∷◌, None, Some, is_some, length, take, get_or, refl, ap, ◌∙◌, arith, lt-ltb, ltb}
use Rattle.std.specs.List.{list_any, position, position_or_len}
use Rattle.std.proofs.lemmas.Bool.{le-ltb}
use Rattle.decimal_rank.proofs.Lists.{place_within}

place-at : {X : Type 0} (p : X → Bool) (xs : List X) (n : ℕ) (d : X) → list_any p (take n xs) ≡ false
    → n < length xs → p (get_or xs n d) ≡ true → position_or_len p xs ≡ n
place-at p [] n d none within passes = absurd (omega (arith, within))
place-at p (x ∷ xs) zero d none within passes = ap (λ t. cond (not t) (1 + position_or_len p xs) 0) passes
place-at p (x ∷ xs) (suc n) d none within passes = step (p x) refl none (λ none. place-at p xs n d none (omega (arith, within)) passes)
  where
    step : (t : Bool) → p x ≡ t → (t || list_any p (take n xs)) ≡ false → (list_any p (take n xs) ≡ false → position_or_len p xs ≡ n)
        → position_or_len p (x ∷ xs) ≡ suc n
    step true is none rest = cc none
    step false is none rest = ap (λ t. cond (not t) (1 + position_or_len p xs) 0) is ∙ omega (arith, rest none)

pub first-at : {X : Type 0} (p : X → Bool) (xs : List X) (n : ℕ) (d : X) → list_any p (take n xs) ≡ false
    → n < length xs → p (get_or xs n d) ≡ true → position p xs ≡ Some n
first-at p xs n d none within passes =
    ap (λ m. cond (ltb m (length xs)) (Some m) None) (place-at p xs n d none within passes) ∙ ap (λ t. cond t (Some n) None) (lt-ltb n (length xs) within)

none-place : {X : Type 0} (p : X → Bool) (xs : List X) → list_any p xs ≡ false → position_or_len p xs ≡ length xs
none-place p [] none = refl
none-place p (x ∷ xs) none = step (p x) refl none (none-place p xs)
  where
    step : (t : Bool) → p x ≡ t → (t || list_any p xs) ≡ false → (list_any p xs ≡ false → position_or_len p xs ≡ length xs)
        → position_or_len p (x ∷ xs) ≡ suc (length xs)
    step true is none rest = cc none
    step false is none rest = ap (λ t. cond (not t) (1 + position_or_len p xs) 0) is ∙ omega (arith, rest none)

pub none-at : {X : Type 0} (p : X → Bool) (xs : List X) → list_any p xs ≡ false → position p xs ≡ None
none-at p xs none = ap (λ m. cond (ltb m (length xs)) (Some m) None) (none-place p xs none)
    ∙ ap (λ t. cond t (Some (length xs)) None) (le-ltb (length xs) (length xs) (omega arith))

-- there is a place exactly where an element passes
pub is-there : {X : Type 0} (p : X → Bool) (xs : List X) → is_some (position p xs) ≡ list_any p xs
is-there p xs = step (list_any p xs) refl
  where
    step : (t : Bool) → list_any p xs ≡ t → is_some (position p xs) ≡ t
    step true some = ap (λ t. is_some (cond t (Some (position_or_len p xs)) None)) (lt-ltb (position_or_len p xs) (length xs) (place_within p xs some))
    step false none = ap is_some (none-at p xs none)
