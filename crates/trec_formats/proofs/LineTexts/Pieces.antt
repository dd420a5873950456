-- The parts of a list with one more element.
use Rattle.std.proofs.Common.{◌≡◌, ◌+◌, ◌-◌, ℕ, Bool, true, false, not, cond, List, [], ◌∷◌, ◌++◌, length, drop, refl, sym, ◌∙◌, ap, arith}
use Rattle.std.specs.List.{after_last, onto_first, slice_split, suffix_len}
use Rattle.std.proofs.lemmas.List.{drop_all, drop-append-le, length_push, reverse-append}
use Rattle.std.proofs.lemmas.List.Splits.{slice_split-cons_yes, slice_split-cons_no}

module _ {X : Type 0} (p : X → Bool) where
  suffix-push : (xs : List X) (x : X) (t : Bool) → p x ≡ t → suffix_len (λ y. not (p y)) (xs ++ x ∷ []) ≡ cond t 0 (1 + suffix_len (λ y. not (p y)) xs)
  suffix-push xs x true is = rw (reverse-append xs (x ∷ []), is) refl
  suffix-push xs x false is = rw (reverse-append xs (x ∷ []), is) refl

  -- one more element, which passes
  pub after_last-yes : (xs : List X) (x : X) → p x ≡ true → after_last p (xs ++ x ∷ []) ≡ []
  after_last-yes xs x is = drop_all _ (xs ++ x ∷ []) (omega (arith, suffix-push xs x true is))

  -- one more element, which doesn't pass
  pub after_last-no : (xs : List X) (x : X) → p x ≡ false → after_last p (xs ++ x ∷ []) ≡ after_last p xs ++ x ∷ []
  after_last-no xs x is =
      let n : ℕ = suffix_len (λ y. not (p y)) xs in
      let count : length (xs ++ x ∷ []) - suffix_len (λ y. not (p y)) (xs ++ x ∷ []) ≡ length xs - n =
      omega (arith, suffix-push xs x false is, length_push xs x) in
      ap (λ k. drop k (xs ++ x ∷ [])) count ∙ drop-append-le (length xs - n) xs (x ∷ []) (omega arith)

  -- the parts begin with one
  record HasPart (parts : List (List X)) : Type 0 where
    first : List X
    others : List (List X)
    cut : parts ≡ first ∷ others

  has_part_step : (x : X) (xs : List X) (t : Bool) → p x ≡ t → HasPart (slice_split p xs) → HasPart (slice_split p (x ∷ xs))
  has_part_step x xs true is w = record { first = []; others = slice_split p xs; cut = slice_split-cons_yes p x xs is }
  has_part_step x xs false is w = record { first = x ∷ w.first; others = w.others; cut = slice_split-cons_no p x xs is ∙ ap (onto_first x) w.cut }

  has_part : (xs : List X) → HasPart (slice_split p xs)
  has_part [] = record { first = []; others = []; cut = refl }
  has_part (x ∷ xs) = has_part_step x xs (p x) refl (has_part xs)

  onto_first-push : (x : X) (parts : List (List X)) (last : List X) → HasPart parts → onto_first x (parts ++ last ∷ []) ≡ onto_first x parts ++ last ∷ []
  onto_first-push x parts last w = rw w.cut refl

  split-yes_step : (y : X) (ys : List X) (x : X) (t : Bool) → p y ≡ t → slice_split p (ys ++ x ∷ []) ≡ slice_split p ys ++ [] ∷ []
      → slice_split p (y ∷ ys ++ x ∷ []) ≡ slice_split p (y ∷ ys) ++ [] ∷ []
  split-yes_step y ys x true is rest = rw (is, rest) refl
  split-yes_step y ys x false is rest =
      slice_split-cons_no p y (ys ++ x ∷ []) is ∙ ap (onto_first y) rest ∙ onto_first-push y (slice_split p ys) [] (has_part ys)
      ∙ ap (λ parts. parts ++ [] ∷ []) (sym (slice_split-cons_no p y ys is))

  -- one more element, at which the list is cut
  pub split-yes : (xs : List X) (x : X) → p x ≡ true → slice_split p (xs ++ x ∷ []) ≡ slice_split p xs ++ [] ∷ []
  split-yes [] x is = rw is refl
  split-yes (y ∷ ys) x is = split-yes_step y ys x (p y) refl (split-yes ys x is)

  onto_last : X → List (List X) → List (List X)
  onto_last x [] = (x ∷ []) ∷ []
  onto_last x (part ∷ []) = (part ++ x ∷ []) ∷ []
  onto_last x (part ∷ next ∷ parts) = part ∷ onto_last x (next ∷ parts)

  onto_last-first : (y x : X) (first : List X) (others : List (List X))
      → onto_first y (onto_last x (first ∷ others)) ≡ onto_last x (onto_first y (first ∷ others))
  unfolding onto_last
  onto_last-first y x first [] = refl
  onto_last-first y x first (next ∷ others) = refl

  onto_last-cons : (x : X) (first : List X) (parts : List (List X)) → HasPart parts → onto_last x (first ∷ parts) ≡ first ∷ onto_last x parts
  unfolding onto_last
  onto_last-cons x first parts w = rw w.cut refl

  split-no_step : (y : X) (ys : List X) (x : X) (t : Bool) → p y ≡ t → slice_split p (ys ++ x ∷ []) ≡ onto_last x (slice_split p ys)
      → slice_split p (y ∷ ys ++ x ∷ []) ≡ onto_last x (slice_split p (y ∷ ys))
  split-no_step y ys x true is rest =
      slice_split-cons_yes p y (ys ++ x ∷ []) is ∙ ap (λ parts. [] ∷ parts) rest ∙ sym (onto_last-cons x [] (slice_split p ys) (has_part ys))
      ∙ ap (onto_last x) (sym (slice_split-cons_yes p y ys is))
  split-no_step y ys x false is rest =
      let w = has_part ys in
      let swap : onto_first y (onto_last x (slice_split p ys)) ≡ onto_last x (onto_first y (slice_split p ys)) =
      rw w.cut (onto_last-first y x w.first w.others) in
      slice_split-cons_no p y (ys ++ x ∷ []) is ∙ ap (onto_first y) rest ∙ swap ∙ ap (onto_last x) (sym (slice_split-cons_no p y ys is))

  split-no : (xs : List X) (x : X) → p x ≡ false → slice_split p (xs ++ x ∷ []) ≡ onto_last x (slice_split p xs)
  unfolding onto_last
  split-no [] x is = rw is refl
  split-no (y ∷ ys) x is = split-no_step y ys x (p y) refl (split-no ys x is)

  onto_last-at : (front : List (List X)) (last : List X) (x : X) → onto_last x (front ++ last ∷ []) ≡ front ++ (last ++ x ∷ []) ∷ []
  unfolding onto_last
  onto_last-at [] last x = refl
  onto_last-at (part ∷ []) last x = refl
  onto_last-at (part ∷ next ∷ front) last x = ap (λ parts. part ∷ parts) (onto_last-at (next ∷ front) last x)

  -- one more element in the last part
  pub split-grows : (xs : List X) (x : X) (front : List (List X)) (last : List X) → p x ≡ false → slice_split p xs ≡ front ++ last ∷ []
      → slice_split p (xs ++ x ∷ []) ≡ front ++ (last ++ x ∷ []) ∷ []
  split-grows xs x front last is cut = split-no xs x is ∙ ap (onto_last x) cut ∙ onto_last-at front last x

  one_part_step : (x : X) (xs : List X) (t : Bool) → p x ≡ t → slice_split p (x ∷ xs) ≡ [] ∷ [] → HasPart (slice_split p xs) → (x ∷ xs) ≡ []
  one_part_step x xs true is one w = let two : [] ∷ w.first ∷ w.others ≡ [] ∷ [] =
      ap (λ parts. [] ∷ parts) (sym w.cut) ∙ sym (slice_split-cons_yes p x xs is) ∙ one in cc two
  one_part_step x xs false is one w = let filled : (x ∷ w.first) ∷ w.others ≡ [] ∷ [] =
      ap (onto_first x) (sym w.cut) ∙ sym (slice_split-cons_no p x xs is) ∙ one in cc filled

  -- a list whose one part is empty
  pub one_part : (xs : List X) → slice_split p xs ≡ [] ∷ [] → xs ≡ []
  one_part [] one = refl
  one_part (x ∷ xs) one = one_part_step x xs (p x) refl one (has_part xs)
