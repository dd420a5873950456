-- How many elements of a list pass a test.
use Rattle.std.proofs.Common.{◌≡◌, ℕ, ◌+◌, ◌≤◌, zero, suc, Bool, true, false, cond, List, [], ◌∷◌, ◌++◌, Some, length, refl, sym, ap, ◌∙◌, filter, arith, length-append}
use Rattle.std.specs.Prelude.{slice_get}
use Rattle.std.specs.List.{list_any}
use Rattle.std.proofs.lemmas.List.Elements.{filter-append}

module _ {X : Type 0} where
  abbrev pub count : (X → Bool) → List X → ℕ
  count p xs = length (filter p xs)

  one : (p : X → Bool) (x : X) (t : Bool) → p x ≡ t → count p (x ∷ []) ≡ length (cond t (x ∷ []) [])
  one p x true is = rw is refl
  one p x false is = rw is refl

  -- one more element
  pub count_pushed : (p : X → Bool) (xs : List X) (x : X) (t : Bool) → p x ≡ t → count p (xs ++ x ∷ []) ≡ count p xs + length (cond t (x ∷ []) [])
  count_pushed p xs x t is = ap length (filter-append p xs (x ∷ [])) ∙ length-append (filter p xs) (filter p (x ∷ [])) ∙ ap (λ n. count p xs + n) (one p x t is)

  pub count_single : (p : X → Bool) (x : X) → count p (x ∷ []) ≤ 1
  count_single p x = step (p x) refl
    where
      step : (t : Bool) → p x ≡ t → count p (x ∷ []) ≤ 1
      step true is = omega (arith, one p x true is)
      step false is = omega (arith, one p x false is)

  pub count_none : (p : X → Bool) (xs : List X) → list_any p xs ≡ false → count p xs ≡ 0
  count_none p [] none = refl
  count_none p (x ∷ xs) none = step (p x) refl none (λ rest. count_none p xs rest)
    where
      step : (t : Bool) → p x ≡ t → list_any p (x ∷ xs) ≡ false → (list_any p xs ≡ false → count p xs ≡ 0) → count p (x ∷ xs) ≡ 0
      step true is none rest = let wrong : true ≡ false = rw is at none in cc wrong
      step false is none rest = rw is (rest (rw is at none))

  -- at most as many pass a test that holds of fewer
  pub count_fewer : (p q : X → Bool) (xs : List X) → ((x : X) → p x ≡ true → q x ≡ true) → count p xs ≤ count q xs
  count_fewer p q [] each = omega arith
  count_fewer p q (x ∷ xs) each = step (p x) refl (q x) refl (count_fewer p q xs each)
    where
      step : (s : Bool) → p x ≡ s → (t : Bool) → q x ≡ t → count p xs ≤ count q xs → count p (x ∷ xs) ≤ count q (x ∷ xs)
      step true s true t rest = rw (s, t) (omega (arith, rest))
      step false s true t rest = rw (s, t) (omega (arith, rest))
      step false s false t rest = rw (s, t) rest
      step true s false t rest = let wrong : false ≡ true = sym t ∙ each x s in cc wrong

  -- and one fewer, where an element at a place doesn't pass it any more
  pub count_one_fewer : (p q : X → Bool) (xs : List X) (i : ℕ) (x : X) → ((x : X) → p x ≡ true → q x ≡ true)
      → slice_get xs i ≡ Some x → p x ≡ false → q x ≡ true → count p xs + 1 ≤ count q xs
  count_one_fewer p q [] i x each at out in_ = cc at
  count_one_fewer p q (y ∷ ys) zero x each at out in_ =
      let same : y ≡ x = cc at in
      let o : p y ≡ false = ap p same ∙ out in
      let n : q y ≡ true = ap q same ∙ in_ in
      rw (o, n) (omega (arith, count_fewer p q ys each))
  count_one_fewer p q (y ∷ ys) (suc i) x each at out in_ = step (p y) refl (q y) refl (count_one_fewer p q ys i x each at out in_)
    where
      step : (s : Bool) → p y ≡ s → (t : Bool) → q y ≡ t → count p ys + 1 ≤ count q ys → count p (y ∷ ys) + 1 ≤ count q (y ∷ ys)
      step true s true t rest = rw (s, t) (omega (arith, rest))
      step false s true t rest = rw (s, t) (omega (arith, rest))
      step false s false t rest = rw (s, t) rest
      step true s false t rest = let wrong : false ≡ true = sym t ∙ each y s in cc wrong
