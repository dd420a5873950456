-- Facts of lists, and of texts among others.
use Rattle.std.proofs.Common.{◌≡◌, ◌&&◌, ◌<◌, ◌++◌, ◌+◌, ◌∙◌, ℕ, zero, suc, Bool, true, List, [], ◌∷◌, Option, Some, ap, arith, get_or, length, map, refl, sym, take}
use Rattle.std.specs.List.{cons_option, filter_map, list_all}
use Rattle.std.specs.Str.{bytes_eq}
use Rattle.std.proofs.lemmas.Cmp.{nat_list_eq_equiv}
use Rattle.std.specs.Option.{option_map}
use Rattle.std.proofs.lemmas.List.{take_more}
use Rattle.std.proofs.lemmas.List.Elements.{filter_map-append}
use Rattle.std.proofs.lemmas.Bool.{and_parts, or_left, or_right}
use Rattle.rulebook.specs.Words.{Text, contains_text}

-- what is told of a value that is there
pub told : {X Y : Type 0} (o : Option X) (x : X) (f : X → Y) (y : Y) → o ≡ Some x → option_map f o ≡ Some y → f x ≡ y
told {X} {Y} o x f y there is =
    let both : ◌≡◌ {A = Option Y} (Some (f x)) (Some y) = sym (ap (option_map f) there) ∙ is in
    let same : f x ≡ y = cc both in same

-- one more that passes
pub all-push : {X : Type 0} (p : X → Bool) (xs : List X) (x : X) → list_all p xs ≡ true → p x ≡ true → list_all p (xs ++ x ∷ []) ≡ true
all-push p [] x all here = ap (λ t. t && true) here
all-push p (y ∷ ys) x all here =
    let parts = and_parts (p y) (list_all p ys) all in
    ap (λ t. t && list_all p (ys ++ x ∷ [])) parts.0 ∙ all-push p ys x parts.1 here

-- texts that are each among others
pub all-there : (texts docs : List Text) → ((doc : Text) → contains_text docs doc ≡ true → contains_text texts doc ≡ true)
    → list_all (contains_text texts) docs ≡ true
all-there texts [] there = refl
all-there texts (doc ∷ docs) there =
    ap (λ t. t && list_all (contains_text texts) docs) (there doc (or_left (bytes_eq doc doc) (contains_text docs doc) (nat_list_eq_equiv.refl doc)))
    ∙ all-there texts docs (λ other later. there other (or_right (bytes_eq other doc) (contains_text docs other) later))

-- values that are all there, by a number each
module _ {X : Type 0} (f : ℕ → Option X) where
  pub there-long : (ns : List ℕ) (xs : List X) → map f ns ≡ map Some xs → length ns ≡ length xs
  there-long [] [] same = refl
  there-long [] (x ∷ xs) same = cc same
  there-long (n ∷ ns) [] same = cc same
  there-long (n ∷ ns) (x ∷ xs) same = ap suc (there-long ns xs (let tail : map f ns ≡ map Some xs = cc same in tail))

  pub there-at : (ns : List ℕ) (xs : List X) (i n : ℕ) (d : X) → map f ns ≡ map Some xs → i < length ns → f (get_or ns i n) ≡ Some (get_or xs i d)
  there-at [] xs i n d same within = absurd (omega (arith, within))
  there-at (m ∷ ns) [] i n d same within = cc same
  there-at (m ∷ ns) (x ∷ xs) zero n d same within = let head : f m ≡ Some x = cc same in head
  there-at (m ∷ ns) (x ∷ xs) (suc i) n d same within = there-at ns xs i n d (let tail : map f ns ≡ map Some xs = cc same in tail) (omega (arith, within))

-- one more element
pub filter_map-more : {X Y : Type 0} (f : X → Option Y) (xs : List X) (i : ℕ) (d : X) → i < length xs
    → filter_map f (take (i + 1) xs) ≡ filter_map f (take i xs) ++ cons_option (f (get_or xs i d)) []
filter_map-more f xs i d within = ap (filter_map f) (take_more xs i d within) ∙ filter_map-append f (take i xs) (get_or xs i d ∷ [])
