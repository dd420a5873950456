-- Places that ascend, and those of two lists made one.
use Rattle.std.proofs.Common.{◌≡◌, ◌≢◌, ◌⊎◌, inl, inr, ⊎_elim, ℕ, suc, ◌+◌, ◌<◌, ◌≤◌, Bool, true, false, cond, List, [], ◌∷◌, ◌++◌, length, refl, sym, subst, arith}
use Rattle.std.specs.Prelude.{◌==◌, nat_lt}
use Rattle.std.specs.List.{Contains}
use borrow.Author.Tests.{eqb-false, ltb-true, ltb-false}
use Rattle.std.proofs.lemmas.List.{append-nil}
use Rattle.decimal_rank.proofs.Lists.{first_or_later, has_later, none_there, has_first}
use Rattle.hall.specs.Places.{Apart, Rises, added_place, place_inserted, places_merged}

pub in_placed : (p q : ℕ) (xs : List ℕ) → Contains (place_inserted p xs) q → (p ≡ q) ⊎ Contains xs q
in_placed p q [] there = first_or_later p [] q there
in_placed p q (x ∷ xs) there = step (nat_lt p x) there (in_placed p q xs)
  where
    behind : (p ≡ q) ⊎ Contains xs q → (p ≡ q) ⊎ Contains (x ∷ xs) q
    behind (inl same) = inl same
    behind (inr rest) = inr (has_later x xs q rest)

    later : (x ≡ q) ⊎ Contains (place_inserted p xs) q → (Contains (place_inserted p xs) q → (p ≡ q) ⊎ Contains xs q) → (p ≡ q) ⊎ Contains (x ∷ xs) q
    later (inl same) rest = inr (0, omega arith, same)
    later (inr rest) known = behind (known rest)

    step : (t : Bool) → Contains (cond t (p ∷ x ∷ xs) (x ∷ place_inserted p xs)) q
        → (Contains (place_inserted p xs) q → (p ≡ q) ⊎ Contains xs q) → (p ≡ q) ⊎ Contains (x ∷ xs) q
    step true here known = first_or_later p (x ∷ xs) q here
    step false here known = later (first_or_later x (place_inserted p xs) q here) known

pub in_merged : (q : ℕ) (xs ys : List ℕ) → Contains (places_merged xs ys) q → Contains xs q ⊎ Contains ys q
in_merged q xs [] there = inl there
in_merged q xs (y ∷ ys) there = step (in_placed y q (places_merged xs ys) there) (in_merged q xs ys)
  where
    behind : Contains xs q ⊎ Contains ys q → Contains xs q ⊎ Contains (y ∷ ys) q
    behind (inl first) = inl first
    behind (inr second) = inr (has_later y ys q second)

    step : (y ≡ q) ⊎ Contains (places_merged xs ys) q → (Contains (places_merged xs ys) q → Contains xs q ⊎ Contains ys q) → Contains xs q ⊎ Contains (y ∷ ys) q
    step (inl same) known = inr (0, omega arith, same)
    step (inr rest) known = behind (known rest)

pub rises_within : (from to : ℕ) (ps : List ℕ) → Rises from ps to → from ≤ to
rises_within from to [] rises = rises
rises_within from to (p ∷ ps) rises = let a : from < p = rises.0 in let b : p ≤ to = rises_within p to ps rises.1 in omega arith

pub rises_later : (from to more : ℕ) (ps : List ℕ) → to ≤ more → Rises from ps to → Rises from ps more
rises_later from to more [] le rises = let r : from ≤ to = rises in omega arith
rises_later from to more (p ∷ ps) le rises = (rises.0, rises_later p to more ps le rises.1)

-- each place is above the first number
rises_above : (from to q : ℕ) (ps : List ℕ) → Rises from ps to → Contains ps q → from < q
rises_above from to q [] rises there = absurd (none_there q there)
rises_above from to q (p ∷ ps) rises there = ⊎_elim (λ (same : p ≡ q). let a : from < p = rises.0 in omega arith)
    (λ (rest : Contains ps q). let a : from < p = rises.0 in let b : p < q = rises_above p to q ps rises.1 rest in omega arith) (first_or_later p ps q there)

-- each place is at most the second number
rises_below : (from to q : ℕ) (ps : List ℕ) → Rises from ps to → Contains ps q → q ≤ to
rises_below from to q [] rises there = absurd (none_there q there)
rises_below from to q (p ∷ ps) rises there = ⊎_elim (λ (same : p ≡ q). let a : p ≤ to = rises_within p to ps rises.1 in omega arith)
    (λ (rest : Contains ps q). rises_below p to q ps rises.1 rest) (first_or_later p ps q there)

rises_push : (from to : ℕ) (ps : List ℕ) → Rises from ps to → Rises from (ps ++ suc to ∷ []) (suc to)
rises_push from to [] rises = let r : from ≤ to = rises in (omega arith, omega arith)
rises_push from to (p ∷ ps) rises = (rises.0, rises_push p to ps rises.1)

-- one more entry's place goes behind those of the entries before it
pub rises_added : {E : Type 0} (ps : List ℕ) (xs ys : List E) → length xs ≤ length ys → length ys ≤ length xs + 1 → Rises 0 ps (length xs)
    → Rises 0 (ps ++ added_place xs ys) (length ys)
rises_added ps xs ys le few rises = step (length xs == length ys) refl
  where
    step : (t : Bool) → (length xs == length ys) ≡ t → Rises 0 (ps ++ cond t [] (suc (length xs) ∷ [])) (length ys)
    step true same = subst (λ (qs : List ℕ). Rises 0 qs (length ys)) (sym (append-nil ps)) (rises_later 0 (length xs) (length ys) ps le rises)
    step false other =
        let ne : length xs ≢ length ys = eqb-false (length xs) (length ys) other in
        let e : suc (length xs) ≡ length ys = omega arith in
        subst (λ (n : ℕ). Rises 0 (ps ++ suc (length xs) ∷ []) n) e (rises_push 0 (length xs) ps rises)

-- the place of what was added is one above those before it
pub place_added : {E : Type 0} (xs ys : List E) (p : ℕ) → length xs ≤ length ys → Contains (added_place xs ys) p → (p ≡ suc (length xs)) × (p ≤ length ys)
place_added xs ys p le there = step (length xs == length ys) refl there
  where
    step : (t : Bool) → (length xs == length ys) ≡ t → Contains (cond t [] (suc (length xs) ∷ [])) p → (p ≡ suc (length xs)) × (p ≤ length ys)
    step true same here = absurd (none_there p here)
    step false other here =
        let ne : length xs ≢ length ys = eqb-false (length xs) (length ys) other in
        ⊎_elim (λ (is : suc (length xs) ≡ p). (sym is, omega arith)) (λ (rest : Contains [] p). absurd (none_there p rest))
        (first_or_later (suc (length xs)) [] p here)

rises_placed : (from to p : ℕ) (xs : List ℕ) → from < p → p ≤ to → (Contains xs p → ⊥) → Rises from xs to → Rises from (place_inserted p xs) to
rises_placed from to p [] above below new rises = (above, below)
rises_placed from to p (x ∷ xs) above below new rises =
    step (nat_lt p x) refl (λ x_below. rises_placed x to p xs x_below below (λ there. new (has_later x xs p there)) rises.1)
  where
    step : (t : Bool) → nat_lt p x ≡ t → (x < p → Rises x (place_inserted p xs) to) → Rises from (cond t (p ∷ x ∷ xs) (x ∷ place_inserted p xs)) to
    step true test rest = (above, (ltb-true p x test, rises.1))
    step false test rest =
        let other : x ≢ p = λ e. new (0, omega arith, e) in let low : x ≤ p = ltb-false p x test in (rises.0, rest (omega arith))

-- the places of two lists that have none in common ascend
pub rises_merged : (from to : ℕ) (xs ys : List ℕ) → Apart xs ys → Rises from xs to → Rises from ys to → Rises from (places_merged xs ys) to
rises_merged from to xs [] apart first second = first
rises_merged from to xs (y ∷ ys) apart first second =
    rises_placed from to y (places_merged xs ys) second.0 (rises_within y to ys second.1)
    (λ there. ⊎_elim (λ (a : Contains xs y). apart y a (has_first y ys))
    (λ (b : Contains ys y). let lt : y < y = rises_above y to y ys second.1 b in omega arith) (in_merged y xs ys there))
    (rises_merged from to xs ys (λ p a b. apart p a (has_later y ys p b)) first
    (rises_from from y to ys (let h : from < y = second.0 in omega arith) second.1))
  where
    rises_from : (from y to : ℕ) (ps : List ℕ) → from ≤ y → Rises y ps to → Rises from ps to
    rises_from from y to [] le rises = let r : y ≤ to = rises in omega arith
    rises_from from y to (p ∷ ps) le rises = (let r : y < p = rises.0 in omega arith, rises.1)
