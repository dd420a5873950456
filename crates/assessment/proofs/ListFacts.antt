-- Facts of lists that are written in place, and of a filter over a list in another order.
use Rattle.std.proofs.Common.{◌≡◌, ◌<◌, ℕ, zero, suc, Bool, true, false, cond, List, [], ◌∷◌, ◌++◌, length, map, set, get_or, refl, ap, subst, ◌∙◌, ◌+◌, arith}
use Rattle.std.specs.Prelude.{Err, Ok, OnOk, Result, filter, slice_get, IsPermutation}
use Rattle.std.specs.List.{swap}
use Rattle.std.specs.Option.{IsSomeAnd}
use Rattle.std.proofs.lemmas.List.Edits.{swap_is}
use Rattle.std.proofs.lemmas.List.Sorted.{IsPermutation-append_comm, IsPermutation-append_left, IsPermutation-append_right, IsPermutation-keeps, IsPermutation-refl, IsPermutation-trans}
use Rattle.std.proofs.lemmas.List.{append_assoc, get_or_default}
use Rattle.assessment.specs.TopicsFacts.{at_place}

-- two lists that two functions see alike
pub map_alike : {X Y Z : Type 0} (f : X → Z) (g : Y → Z) (xs : List X) (ys : List Y) → length xs ≡ length ys
    → ((k : ℕ) (d : X) (e : Y) → k < length xs → f (get_or xs k d) ≡ g (get_or ys k e)) → map f xs ≡ map g ys
map_alike f g [] [] long alike = refl
map_alike f g [] (y ∷ ys) long alike = cc long
map_alike f g (x ∷ xs) [] long alike = cc long
map_alike f g (x ∷ xs) (y ∷ ys) long alike =
    let head : f x ≡ g y = alike 0 x y (omega arith) in
    let rest : map f xs ≡ map g ys = map_alike f g xs ys (omega (arith, long)) (λ k d e within. alike (suc k) d e (omega (arith, within))) in
    ap (λ z. z ∷ map f xs) head ∙ ap (λ zs. g y ∷ zs) rest

-- what follows where a call answers Ok
pub on-ok : {T E : Type 0} {P Q : Type 0} (r : Result T E) → (P → Q) → OnOk r P → OnOk r Q
on-ok (Ok x) step holds = step holds
on-ok (Err e) step holds = holds

pub at-each : {X : Type 0} (P : X → Type 0) (xs : List X) (i : ℕ) → i < length xs → ((d : X) → P (get_or xs i d)) → IsSomeAnd (slice_get xs i) P
at-each P [] i within here = absurd (omega (arith, within))
at-each P (x ∷ xs) zero within here = here x
at-each P (x ∷ xs) (suc i) within here = at-each P xs i (omega (arith, within)) here

-- an element changed in its place
pub set-at_place : {X : Type 0} (change : X → X) (xs : List X) (i : ℕ) (d : X) → set xs i (change (get_or xs i d)) ≡ at_place i change xs
set-at_place change [] i d = refl
set-at_place change (x ∷ xs) zero d = refl
set-at_place change (x ∷ xs) (suc i) d = ap (λ ys. x ∷ ys) (set-at_place change xs i d)

-- the element behind a list
pub get-behind : {X : Type 0} (xs : List X) (x : X) (ys : List X) (d : X) → get_or (xs ++ x ∷ ys) (length xs) d ≡ x
get-behind [] x ys d = refl
get-behind (y ∷ xs) x ys d = get-behind xs x ys d

-- ---- what a filter keeps of a list in another order

module _ {X : Type 0} (p : X → Bool) where
  abbrev kept : X → List X
  kept x = cond (p x) (x ∷ []) []

  filter-first : (x : X) (xs : List X) → filter p (x ∷ xs) ≡ kept x ++ filter p xs
  filter-first x xs = step (p x)
    where
      step : (t : Bool) → cond t (x ∷ filter p xs) (filter p xs) ≡ cond t (x ∷ []) [] ++ filter p xs
      step true = refl
      step false = refl

  -- two parts in front in the other order
  shuffled : (u v w : List X) → IsPermutation (u ++ (v ++ w)) (v ++ (u ++ w))
  shuffled u v w =
      let swapped : IsPermutation ((u ++ v) ++ w) ((v ++ u) ++ w) = IsPermutation-append_left w (u ++ v) (v ++ u) (IsPermutation-append_comm u v) in
      rw (← append_assoc u v w, ← append_assoc v u w) swapped

  -- the first element in the place of a later one
  traded : (a : X) (xs : List X) (j : ℕ) → j < length xs → IsPermutation (kept a ++ filter p xs) (kept (get_or xs j a) ++ filter p (set xs j a))
  traded a [] j within = absurd (omega (arith, within))
  traded a (b ∷ xs) zero within = rw (filter-first b xs, filter-first a xs) (shuffled (kept a) (kept b) (filter p xs))
  traded a (b ∷ xs) (suc j) within =
      let c : X = get_or xs j a in
      let later : List X = filter p (set xs j a) in
      rw (filter-first b xs, filter-first b (set xs j a))
      (IsPermutation-trans (kept a ++ (kept b ++ filter p xs)) (kept b ++ (kept a ++ filter p xs)) (kept c ++ (kept b ++ later))
      (shuffled (kept a) (kept b) (filter p xs))
      (IsPermutation-trans (kept b ++ (kept a ++ filter p xs)) (kept b ++ (kept c ++ later)) (kept c ++ (kept b ++ later))
      (IsPermutation-append_right (kept b) (kept a ++ filter p xs) (kept c ++ later) (traded a xs j (omega (arith, within))))
      (shuffled (kept b) (kept c) later)))

  -- an element in another's place, and that one in its own
  exchanged : (xs : List X) (i j : ℕ) (d : X) → i < length xs → j < length xs
      → IsPermutation (filter p xs) (filter p (set (set xs i (get_or xs j d)) j (get_or xs i d)))
  exchanged [] i j d first second = absurd (omega (arith, first))
  exchanged (x ∷ xs) zero zero d first second = IsPermutation-refl (filter p (x ∷ xs))
  exchanged (x ∷ xs) zero (suc j) d first second =
      let within : j < length xs = omega (arith, second) in
      let same : get_or xs j x ≡ get_or xs j d = get_or_default xs j x d within in
      rw (← same, filter-first x xs, filter-first (get_or xs j x) (set xs j x)) (traded x xs j within)
  exchanged (x ∷ xs) (suc i) zero d first second =
      let within : i < length xs = omega (arith, first) in
      let same : get_or xs i x ≡ get_or xs i d = get_or_default xs i x d within in
      rw (← same, filter-first x xs, filter-first (get_or xs i x) (set xs i x)) (traded x xs i within)
  exchanged (x ∷ xs) (suc i) (suc j) d first second =
      rw (filter-first x xs, filter-first x (set (set xs i (get_or xs j d)) j (get_or xs i d)))
      (IsPermutation-append_right (kept x) (filter p xs) (filter p (set (set xs i (get_or xs j d)) j (get_or xs i d)))
      (exchanged xs i j d (omega (arith, first)) (omega (arith, second))))

  pub IsPermutation-filter : (xs ys : List X) → IsPermutation xs ys → IsPermutation (filter p xs) (filter p ys)
  IsPermutation-filter xs ys same = IsPermutation-keeps xs (λ l. IsPermutation (filter p xs) (filter p l)) (IsPermutation-refl (filter p xs)) step ys same
    where
      step : (l : List X) (i j : ℕ) → i < length l → j < length l → IsPermutation (filter p xs) (filter p l)
          → IsPermutation (filter p xs) (filter p (swap l i j))
      step [] i j first second before = absurd (omega (arith, first))
      step (x ∷ l) i j first second before =
          IsPermutation-trans (filter p xs) (filter p (x ∷ l)) (filter p (swap (x ∷ l) i j)) before
          (subst (λ (m : List X). IsPermutation (filter p (x ∷ l)) (filter p m)) (swap_is (x ∷ l) i j x first second) (exchanged (x ∷ l) i j x first second))
