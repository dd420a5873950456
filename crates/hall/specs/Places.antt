-- The places of entries in a list, from 1.
use Rattle.std.specs.Prelude.{ℕ, suc, ◌<◌, ◌≤◌, ◌==◌, List, [], ◌∷◌, cond, length, nat_lt}
use Rattle.std.specs.List.{Contains}

-- no place is in both
abbrev pub Apart : List ℕ → List ℕ → Type 0
Apart xs ys = (p : ℕ) → Contains xs p → Contains ys p → ⊥

-- the place goes before the first greater one
abbrev pub place_inserted : ℕ → List ℕ → List ℕ
place_inserted p [] = p ∷ []
place_inserted p (x ∷ xs) = cond (nat_lt p x) (p ∷ x ∷ xs) (x ∷ place_inserted p xs)

-- the places of both, in order
abbrev pub places_merged : List ℕ → List ℕ → List ℕ
places_merged xs [] = xs
places_merged xs (y ∷ ys) = place_inserted y (places_merged xs ys)

-- the places ascend strictly, above the first number and up to the second
abbrev pub Rises : ℕ → List ℕ → ℕ → Type 0
Rises from [] to = from ≤ to
Rises from (p ∷ ps) to = (from < p) × Rises p ps to

-- the place of what the second list has more than the first, which has one entry more or none
abbrev pub added_place : {E : Type 0} → List E → List E → List ℕ
added_place xs ys = cond (length xs == length ys) [] (suc (length xs) ∷ [])
