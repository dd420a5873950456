-- Facts of lists of any type, for the cases that std's `lemmas.List`, `lemmas.Option` and `Math.ListN` don't have.
use Rattle.std.proofs.Common.{◌≡◌, ◌<◌, ◌≤◌, ◌⊎◌, inl, inr, ℕ, zero, suc, ◌+◌, Bool, true, false, cond, not, ◌||◌, List, [], ◌∷◌, ◌++◌, Option, None, Some, filter, length, map, replicate, set, take, get_or, refl, sym, ap, ◌∙◌, arith}
use Rattle.std.specs.Prelude.{All, AllPairs, Contains, count_by, slice_get}
use Rattle.std.specs.Int.{to_le_bytes, w16, w32, w64}
use Rattle.std.specs.List.{enumerate_from, list_all, list_any, insert, position_or_len}
use Rattle.std.specs.Option.{is_some, option_map, IsSomeAnd}
use Rattle.std.proofs.lemmas.Bool.{and_from, and_parts}
use Rattle.std.proofs.lemmas.List.{get_or-map, length-map}
use Rattle.std.proofs.lemmas.List.Sums.{count_by-le-length, length-filter, sum_by-cons}

-- ---- what a function gives of each element

pub map-map : {X Y Z : Type 0} (g : Y → Z) (f : X → Y) (xs : List X) → map g (map f xs) ≡ map (λ x. g (f x)) xs
map-map g f [] = refl
map-map g f (x ∷ xs) = ap (λ zs. g (f x) ∷ zs) (map-map g f xs)

-- two functions that give the same of each element
pub map-alike : {X Y : Type 0} (f g : X → Y) (xs : List X) → ((x : X) → f x ≡ g x) → map f xs ≡ map g xs
map-alike f g [] same = refl
map-alike f g (x ∷ xs) same = ap (λ y. y ∷ map f xs) (same x) ∙ ap (λ ys. g x ∷ ys) (map-alike f g xs same)

-- an element written in place of another that f sees alike
pub map-set_same : {X Y : Type 0} (f : X → Y) (xs : List X) (i : ℕ) (y d : X) → i < length xs → f y ≡ f (get_or xs i d) → map f (set xs i y) ≡ map f xs
map-set_same f [] i y d within same = absurd (omega (arith, within))
map-set_same f (x ∷ xs) zero y d within same = ap (λ z. z ∷ map f xs) same
map-set_same f (x ∷ xs) (suc i) y d within same = ap (λ zs. f x ∷ zs) (map-set_same f xs i y d (omega (arith, within)) same)

pub none_mapped : {X Y : Type 0} (f : X → Y) (found : Option X) → option_map f found ≡ None → found ≡ None
none_mapped f None is = refl
none_mapped f (Some x) is = cc is

pub none_is : {X : Type 0} (found : Option X) → is_some found ≡ false → found ≡ None
none_is None none = refl
none_is (Some x) none = cc none

-- ---- how many pass a test

pub count_by-cons : {X : Type 0} (p : X → Bool) (x : X) (xs : List X) → count_by p (x ∷ xs) ≡ cond (p x) 1 0 + count_by p xs
count_by-cons p x xs = sum_by-cons (λ y. cond (p y) 1 0) x xs

pub count_by-alike : {X : Type 0} (p q : X → Bool) (xs : List X) → ((x : X) → p x ≡ q x) → count_by p xs ≡ count_by q xs
count_by-alike p q [] same = refl
count_by-alike p q (x ∷ xs) same =
    count_by-cons p x xs ∙ ap (λ t. cond t 1 0 + count_by p xs) (same x)
    ∙ ap (λ n. cond (q x) 1 0 + n) (count_by-alike p q xs same) ∙ sym (count_by-cons q x xs)

pub count_by-map : {X Y : Type 0} (f : X → Y) (p : Y → Bool) (xs : List X) → count_by p (map f xs) ≡ count_by (λ x. p (f x)) xs
count_by-map f p [] = refl
count_by-map f p (x ∷ xs) =
    count_by-cons p (f x) (map f xs) ∙ ap (λ n. cond (p (f x)) 1 0 + n) (count_by-map f p xs) ∙ sym (count_by-cons (λ x. p (f x)) x xs)

pub length-filter_le : {X : Type 0} (p : X → Bool) (xs : List X) → length (filter p xs) ≤ length xs
length-filter_le p xs = omega (arith, length-filter p xs, count_by-le-length p xs)

-- ---- tests of some element and of all

pub any_front : {X : Type 0} (p : X → Bool) (xs ys : List X) → list_any p xs ≡ true → list_any p (xs ++ ys) ≡ true
any_front p [] ys there = cc there
any_front p (x ∷ xs) ys there = step (p x) there (any_front p xs ys)
  where
    step : (t : Bool) → (t || list_any p xs) ≡ true → (list_any p xs ≡ true → list_any p (xs ++ ys) ≡ true) → (t || list_any p (xs ++ ys)) ≡ true
    step true there later = refl
    step false there later = later there

-- where an element passes, the first that does is within the list
pub place_within : {X : Type 0} (p : X → Bool) (xs : List X) → list_any p xs ≡ true → position_or_len p xs < length xs
place_within p [] some = cc some
place_within p (x ∷ xs) some = step (p x) some (place_within p xs)
  where
    step : (t : Bool) → (t || list_any p xs) ≡ true → (list_any p xs ≡ true → position_or_len p xs < length xs)
        → cond (not t) (1 + position_or_len p xs) 0 < suc (length xs)
    step true some rest = omega arith
    step false some rest = omega (arith, rest some)

module _ {X : Type 0} (p : X → Bool) where
  pub all_head : (x : X) (xs : List X) → list_all p (x ∷ xs) ≡ true → p x ≡ true
  all_head x xs all = (and_parts (p x) (list_all p xs) all).0

  pub all_tail : (x : X) (xs : List X) → list_all p (x ∷ xs) ≡ true → list_all p xs ≡ true
  all_tail x xs all = (and_parts (p x) (list_all p xs) all).1

  pub all_taken : (n : ℕ) (xs : List X) → list_all p xs ≡ true → list_all p (take n xs) ≡ true
  all_taken zero xs all = refl
  all_taken (suc n) [] all = refl
  all_taken (suc n) (x ∷ xs) all = and_from (p x) (list_all p (take n xs)) (all_head x xs all) (all_taken n xs (all_tail x xs all))

  pub all_at : (xs : List X) (i : ℕ) (d : X) → i < length xs → list_all p xs ≡ true → p (get_or xs i d) ≡ true
  all_at [] i d within all = absurd (omega (arith, within))
  all_at (x ∷ xs) zero d within all = all_head x xs all
  all_at (x ∷ xs) (suc i) d within all = all_at xs i d (omega (arith, within)) (all_tail x xs all)

pub all_inserted : {X : Type 0} (p : X → Bool) (xs : List X) (i : ℕ) (x : X) → list_all p xs ≡ true → p x ≡ true → list_all p (insert xs i x) ≡ true
all_inserted p xs zero x all one = and_from (p x) (list_all p xs) one all
all_inserted p [] (suc i) x all one = and_from (p x) true one refl
all_inserted p (y ∷ ys) (suc i) x all one =
    let parts = and_parts (p y) (list_all p ys) all in
    and_from (p y) (list_all p (insert ys i x)) parts.0 (all_inserted p ys i x parts.1 one)

-- ---- pairs of elements

pub pairs_head : {X : Type 0} (R : X → X → Type 0) (x : X) (xs : List X) → AllPairs R (x ∷ xs) → All (R x) xs
pairs_head R x xs pairs k d within = pairs zero (suc k) d (omega arith) (omega arith)

pub pairs_tail : {X : Type 0} (R : X → X → Type 0) (x : X) (xs : List X) → AllPairs R (x ∷ xs) → AllPairs R xs
pairs_tail R x xs pairs i j d below within = pairs (suc i) (suc j) d (omega arith) (omega arith)

pub pairs_map : {X Y : Type 0} (f : X → Y) (R : Y → Y → Type 0) (xs : List X) → AllPairs (λ a b. R (f a) (f b)) xs → AllPairs R (map f xs)
pairs_map f R [] pairs i j d below within = absurd (omega (arith, within))
pairs_map f R (x ∷ xs) pairs i j d below within =
    let long : j < length (x ∷ xs) = omega (arith, within, length-map (x ∷ xs) f) in
    let before : i < length (x ∷ xs) = omega (arith, below, long) in
    rw (get_or-map f (x ∷ xs) i x d before, get_or-map f (x ∷ xs) j x d long) (pairs i j x below long)

-- ---- an element that a list has

pub none_there : {X : Type 0} (x : X) → Contains [] x → ⊥
none_there x (k, h, e) = absurd (omega arith)

pub has_first : {X : Type 0} (x : X) (xs : List X) → Contains (x ∷ xs) x
has_first x xs = (0, omega arith, refl)

pub has_later : {X : Type 0} (y : X) (ys : List X) (x : X) → Contains ys x → Contains (y ∷ ys) x
has_later y ys x (k, h, e) = (suc k, omega arith, e)

pub first_or_later : {X : Type 0} (y : X) (ys : List X) (x : X) → Contains (y ∷ ys) x → (y ≡ x) ⊎ Contains ys x
first_or_later y ys x (zero, h, e) = inl e
first_or_later y ys x (suc k, h, e) = inr (k, omega arith, e)

-- ---- an element by its index

pub slice-there : {X : Type 0} (xs : List X) (i : ℕ) (d x : X) → slice_get xs i ≡ Some x → (i < length xs) × (get_or xs i d ≡ x)
slice-there [] i d x is = cc is
slice-there (y ∷ xs) zero d x is = (omega arith, (let same : y ≡ x = cc is in same))
slice-there (y ∷ xs) (suc i) d x is = let rest = slice-there xs i d x is in (omega (arith, rest.0), rest.1)

pub slice-front : {X : Type 0} (xs ys : List X) (i : ℕ) (x : X) → slice_get xs i ≡ Some x → slice_get (xs ++ ys) i ≡ Some x
slice-front [] ys i x is = cc is
slice-front (y ∷ xs) ys zero x is = is
slice-front (y ∷ xs) ys (suc i) x is = slice-front xs ys i x is

pub slice-last : {X : Type 0} (xs : List X) (x : X) → slice_get (xs ++ x ∷ []) (length xs) ≡ Some x
slice-last [] x = refl
slice-last (y ∷ xs) x = slice-last xs x

pub enumerate-push : {X : Type 0} (n : ℕ) (xs : List X) (x : X) → enumerate_from n (xs ++ x ∷ []) ≡ enumerate_from n xs ++ (n + length xs, x) ∷ []
enumerate-push n [] x = ap (λ k. (k, x) ∷ []) (let e : n ≡ n + 0 = omega arith in e)
enumerate-push n (y ∷ ys) x =
    ap (λ rest. (n, y) ∷ rest)
    (enumerate-push (n + 1) ys x ∙ ap (λ k. enumerate_from (n + 1) ys ++ (k, x) ∷ []) (let e : n + 1 + length ys ≡ n + suc (length ys) = omega arith in e))

-- the default of an element that is repeated
pub get_or-repeated : {X : Type 0} (n i : ℕ) (x : X) → get_or (replicate n x) i x ≡ x
get_or-repeated zero i x = refl
get_or-repeated (suc n) zero x = refl
get_or-repeated (suc n) (suc i) x = get_or-repeated n i x

-- an element that is there, and what holds of it
pub some-at : {X : Type 0} (P : X → Type 0) (xs : List X) (i : ℕ) (d : X) → IsSomeAnd (slice_get xs i) P → (i < length xs) × P (get_or xs i d)
some-at P [] i d there = absurd there
some-at P (x ∷ xs) zero d there = (omega arith, there)
some-at P (x ∷ xs) (suc i) d there = let rest = some-at P xs i d there in (omega (arith, rest.0), rest.1)

pub at-some : {X : Type 0} (P : X → Type 0) (xs : List X) (i : ℕ) (d : X) → i < length xs → P (get_or xs i d) → IsSomeAnd (slice_get xs i) P
at-some P [] i d within here = absurd (omega (arith, within))
at-some P (x ∷ xs) zero d within here = here
at-some P (x ∷ xs) (suc i) d within here = at-some P xs i d (omega (arith, within)) here

-- ---- how many bytes a number is written as

pub two_bytes : (n : ℕ) → length (to_le_bytes w16 n) ≡ 2
two_bytes n = refl

pub four_bytes : (n : ℕ) → length (to_le_bytes w32 n) ≡ 4
four_bytes n = refl

pub eight_bytes : (n : ℕ) → length (to_le_bytes w64 n) ≡ 8
eight_bytes n = refl
