-- States that grow, and two that are beginnings of one history.
use Rattle.std.proofs.Common.{◌≡◌, inl, inr, ◌+◌, ◌≤◌, Bool, true, false, cond, List, [], ◌∷◌, ◌++◌, length, refl, sym, ap, ◌∙◌, arith, length-append}
use Rattle.std.specs.Prelude.{nat_le}
use Rattle.std.proofs.lemmas.List.{append_assoc, append-nil}
use Rattle.hall.specs.declared.stories.Story.{Story}
use Rattle.hall.specs.Stories.{AreComparable, AtMost, HasPrefix, joined_story}

module _ {E : Type 0} where
  starts_self : (xs : List E) → HasPrefix xs xs
  starts_self xs = ([], sym (append-nil xs))

  starts_trans : (xs ys zs : List E) → HasPrefix ys xs → HasPrefix zs ys → HasPrefix zs xs
  starts_trans xs ys zs first second =
      (first.0 ++ second.0, second.1 ∙ ap (λ (l : List E). l ++ second.0) first.1 ∙ append_assoc xs first.0 second.0)

  pub starts_length : (xs ys : List E) → HasPrefix ys xs → length xs ≤ length ys
  starts_length xs ys starts = let e : length ys ≡ length xs + length starts.0 = ap (λ (l : List E). length l) starts.1 ∙ length-append xs starts.0 in
      omega arith

  pub at_most_self : (a : Story E) → AtMost a a
  at_most_self a = (starts_self a.list, omega arith, refl)

  pub at_most_trans : (a b c : Story E) → AtMost a b → AtMost b c → AtMost a c
  at_most_trans a b c first second =
      let p : a.faults ≤ b.faults = first.1 in let q : b.faults ≤ c.faults = second.1 in
      (starts_trans a.list b.list c.list first.0 second.0, omega arith, first.2 ∙ second.2)

  pub comparable : (xs ys zs us : List E) → xs ++ zs ≡ ys ++ us → AreComparable xs ys
  comparable [] ys zs us is = inl (ys, refl)
  comparable (x ∷ xs) [] zs us is = inr (x ∷ xs, refl)
  comparable (x ∷ xs) (y ∷ ys) zs us is = let tail : xs ++ zs ≡ ys ++ us = cc is in let head : x ≡ y = cc is in step head (comparable xs ys zs us tail)
    where
      step : x ≡ y → AreComparable xs ys → AreComparable (x ∷ xs) (y ∷ ys)
      step head (inl starts) = inl (starts.0, ap (λ (l : List E). y ∷ l) starts.1 ∙ ap (λ (z : E). z ∷ xs ++ starts.0) (sym head))
      step head (inr starts) = inr (starts.0, ap (λ (l : List E). x ∷ l) starts.1 ∙ ap (λ (z : E). z ∷ ys ++ starts.0) head)

  pub both_comparable : (a b top : Story E) → AtMost a top → AtMost b top → AreComparable a.list b.list
  both_comparable a b top first second = comparable a.list b.list first.0.0 second.0.0 (sym first.0.1 ∙ second.0.1)

  module _ (a b top : Story E) (first : AtMost a top) (second : AtMost b top) where
    pub joined_at_most : AtMost (joined_story a b) top
    joined_at_most =
        let p : a.faults ≤ top.faults = first.1 in let q : b.faults ≤ top.faults = second.1 in
        (step (nat_le (length a.list) (length b.list)), omega arith, first.2)
      where
        step : (t : Bool) → HasPrefix top.list (cond t b.list a.list)
        step true = second.0
        step false = first.0
