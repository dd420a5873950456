-- What a series tells of the leases that pass a test.
use Rattle.std.proofs.Common.{◌≡◌, ℕ, ◌+◌, ◌≤◌, Bool, true, false, cond, List, [], ◌∷◌, ◌++◌, Option, Some, None, length, refl, ap, subst, ◌∙◌, arith, get_or, suc}
use Rattle.lease_desk.specs.Series.{last_of, last_place, up_to}

-- ---- the last place

-- an element behind the others
pub last_place-push : {X : Type 0} (passes : X → Bool) (xs : List X) (x : X)
    → last_place passes (xs ++ x ∷ []) ≡ cond (passes x) (Some (length xs)) (last_place passes xs)
last_place-push passes [] x = none (passes x)
  where
    none : (t : Bool) → last_of None t ≡ cond t (Some 0) None
    none true = refl
    none false = refl
last_place-push passes (y ∷ ys) x = ap (λ place. last_of place (passes y)) (last_place-push passes ys x) ∙ step (passes x)
  where
    step : (t : Bool) → last_of (cond t (Some (length ys)) (last_place passes ys)) (passes y)
        ≡ cond t (Some (length (y ∷ ys))) (last_of (last_place passes ys) (passes y))
    step true = let e : length ys + 1 ≡ length (y ∷ ys) = omega arith in ap Option.Some e
    step false = refl

-- it stands within the list
pub last_place-within : {X : Type 0} (passes : X → Bool) (xs : List X) → up_to (last_place passes xs) ≤ length xs
last_place-within passes [] = omega arith
last_place-within passes (x ∷ xs) = step (last_place passes xs) (passes x) (last_place-within passes xs)
  where
    step : (place : Option ℕ) (t : Bool) → up_to place ≤ length xs → up_to (last_of place t) ≤ length (x ∷ xs)
    step None true h = omega arith
    step None false h = omega arith
    step (Some place) t h = omega arith

-- it passes
pub last_passes : {X : Type 0} (passes : X → Bool) (xs : List X) (place : ℕ) (d : X) → last_place passes xs ≡ Some place → passes (get_or xs place d) ≡ true
last_passes passes [] place d e = cc
last_passes passes (x ∷ xs) place d e = step (last_place passes xs) (passes x) refl (λ i is. last_passes passes xs i d is) e
  where
    step : (last : Option ℕ) (t : Bool) → passes x ≡ t → ((i : ℕ) → last ≡ Some i → passes (get_or xs i d) ≡ true)
        → last_of last t ≡ Some place → passes (get_or (x ∷ xs) place d) ≡ true
    step None true here rest at = let zero_is : 0 ≡ place = cc in subst (λ i. passes (get_or (x ∷ xs) i d) ≡ true) zero_is here
    step None false here rest at = cc
    step (Some i) t here rest at =
        let next_is : i + 1 ≡ place = cc in
        let suc_is : suc i ≡ place = omega arith in
        subst (λ k. passes (get_or (x ∷ xs) k d) ≡ true) suc_is (rest i refl)
