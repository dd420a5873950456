-- Two lists place by place, and a list whose elements are written one after another.
use Rattle.std.proofs.Common.{◌≡◌, ◌≢◌, ◌<◌, ◌≤◌, ◌+◌, ℕ, suc, zero, Bool, true, false, cond, List, [], ◌∷◌, ◌++◌, length, map, take, set, get_or, replicate, get_or-set_other, refl, sym, ap, ◌∙◌, arith}
use Rattle.std.specs.Prelude.{All, filter, zip}
use Rattle.std.specs.List.{AllZip}
use Rattle.std.proofs.lemmas.List.{length-set, map_more, map_push, take_all, take_more_set}
use Rattle.std.proofs.lemmas.List.Elements.{All-head, All-tail}

-- ---- two lists, place by place

module _ {A B : Type 0} (R : A → B → Type 0) where
  pub zip-set : (xs : List A) (ys : List B) (i : ℕ) (x : A) (y : B) → AllZip R xs ys → R x y → AllZip R (set xs i x) (set ys i y)
  zip-set [] [] i x y all here = tt
  zip-set [] (b ∷ ys) i x y all here = absurd all
  zip-set (a ∷ xs) [] i x y all here = absurd all
  zip-set (a ∷ xs) (b ∷ ys) zero x y all here = (here, all.1)
  zip-set (a ∷ xs) (b ∷ ys) (suc i) x y all here = (all.0, zip-set xs ys i x y all.1 here)

  pub zip_at : (xs : List A) (ys : List B) (i : ℕ) (d : A) (e : B) → AllZip R xs ys → i < length xs → R (get_or xs i d) (get_or ys i e)
  zip_at [] ys i d e all within = absurd (omega (arith, within))
  zip_at (a ∷ xs) [] i d e all within = absurd all
  zip_at (a ∷ xs) (b ∷ ys) zero d e all within = all.0
  zip_at (a ∷ xs) (b ∷ ys) (suc i) d e all within = zip_at xs ys i d e all.1 (omega (arith, within))

  pub zip-map : (f : A → A) → ((x : A) (y : B) → R x y → R (f x) y) → (xs : List A) (ys : List B) → AllZip R xs ys → AllZip R (map f xs) ys
  zip-map f keeps [] [] all = tt
  zip-map f keeps [] (b ∷ ys) all = absurd all
  zip-map f keeps (a ∷ xs) [] all = absurd all
  zip-map f keeps (a ∷ xs) (b ∷ ys) all = (keeps a b all.0, zip-map f keeps xs ys all.1)

  pub zip-replicate : (xs : List A) (y : B) → All (λ x. R x y) xs → AllZip R xs (replicate (length xs) y)
  zip-replicate [] y all = tt
  zip-replicate (a ∷ xs) y all = (All-head (λ x. R x y) a xs all, zip-replicate xs y (All-tail (λ x. R x y) a xs all))

  -- what two functions give of those pairs that pass
  pub chosen_alike : {C : Type 0} (p : A → Bool) (q : A → B → Bool) (f : A → C) (g : A → B → C)
      → ((x : A) (y : B) → R x y → p x ≡ q x y) → ((x : A) (y : B) → R x y → f x ≡ g x y)
      → (xs : List A) (ys : List B) → AllZip R xs ys → map f (filter p xs) ≡ map (λ (r : A × B). g r.0 r.1) (filter (λ (r : A × B). q r.0 r.1) (zip xs ys))
  chosen_alike p q f g tests gives [] [] all = refl
  chosen_alike p q f g tests gives [] (b ∷ ys) all = absurd all
  chosen_alike p q f g tests gives (a ∷ xs) [] all = absurd all
  chosen_alike {C} p q f g tests gives (a ∷ xs) (b ∷ ys) all =
      ap (λ t. map f (cond t (a ∷ filter p xs) (filter p xs))) (tests a b all.0) ∙ step (q a b) (chosen_alike p q f g tests gives xs ys all.1)
    where
      later : List (A × B)
      later = filter (λ (r : A × B). q r.0 r.1) (zip xs ys)

      step : (t : Bool) → map f (filter p xs) ≡ map (λ (r : A × B). g r.0 r.1) later
          → map f (cond t (a ∷ filter p xs) (filter p xs)) ≡ map (λ (r : A × B). g r.0 r.1) (cond t ((a, b) ∷ later) later)
      step true rest = ap (λ c. c ∷ map f (filter p xs)) (gives a b all.0) ∙ ap (λ cs. g a b ∷ cs) rest
      step false rest = rest

-- ---- a list whose elements are written one after another

-- the first i elements are what f gives of the old ones, as g sees them, and the others are as before
pub record IsMapped {X Z : Type 0} (g f : X → Z) (old now : List X) (i : ℕ) : Type 0 where
  pub long : length now ≡ length old
  pub done : map g (take i now) ≡ map f (take i old)
  pub left : (k : ℕ) (d : X) → i ≤ k → get_or now k d ≡ get_or old k d

module _ {X Z : Type 0} (g f : X → Z) where
  pub none_mapped : (old : List X) → IsMapped g f old old 0
  none_mapped old = record { long = refl; done = refl; left = λ k d h. refl }

  pub one_more_mapped : (old now : List X) (i : ℕ) (new d : X) → i < length old → g new ≡ f (get_or now i d)
      → IsMapped g f old now i → IsMapped g f old (set now i new) (i + 1)
  one_more_mapped old now i new d within is was =
      let inside : i < length now = omega (arith, was.long) in
      record {
        long = length-set now i new ∙ was.long;
        done = ap (map g) (take_more_set now i new inside) ∙ map_push g (take i now) new ∙ ap (λ zs. zs ++ g new ∷ []) was.done
            ∙ ap (λ z. map f (take i old) ++ z ∷ []) (is ∙ ap f (was.left i d (omega arith)))
            ∙ sym (map_more f old i d within);
        left = λ k e h. let other : k ≢ i = omega (arith, h) in get_or-set_other now i k new e other ∙ was.left k e (omega (arith, h));
      }

  pub all_mapped : (old now : List X) (i : ℕ) → length old ≤ i → IsMapped g f old now i → map g now ≡ map f old
  all_mapped old now i past was =
      let past_now : length now ≤ i = omega (arith, was.long) in
      ap (map g) (sym (take_all i now past_now)) ∙ was.done ∙ ap (map f) (take_all i old past)
