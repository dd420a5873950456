-- What holds of the elements of a list, by a test or by their places, where the list is joined, changed in its place or filtered.
use Rattle.std.proofs.Common.{◌≡◌, ◌||◌, ◌+◌, ◌≤◌, ℕ, cond, not, ltb, suc, zero, ◌≢◌, Bool, true, false, List, [], ◌∷◌, ◌++◌, None, Option, Some, filter, length, map, set, get_or, refl, sym, subst, ap, ◌∙◌, arith}
use Rattle.std.specs.Prelude.{find, slice_get}
use Rattle.std.specs.List.{cons_option, filter_map, flat_map, list_all, list_any, position, position_or_len}
use Rattle.std.specs.Option.{option_map}
use Rattle.std.proofs.lemmas.List.{length-map}
use Rattle.assessment.specs.TopicsFacts.{at_place}
use Rattle.std.proofs.lemmas.List.Folds.{list_all-append, list_any-append}
use Rattle.std.proofs.lemmas.Bool.{and_parts, and_from}

module _ {X : Type 0} (p : X → Bool) where
  pub all_cons : (x : X) (xs : List X) → p x ≡ true → list_all p xs ≡ true → list_all p (x ∷ xs) ≡ true
  all_cons x xs head tail = and_from (p x) (list_all p xs) head tail

  pub all_front : (xs ys : List X) → list_all p (xs ++ ys) ≡ true → list_all p xs ≡ true
  all_front xs ys all = (and_parts (list_all p xs) (list_all p ys) (sym (list_all-append p xs ys) ∙ all)).0

  pub all_back : (xs ys : List X) → list_all p (xs ++ ys) ≡ true → list_all p ys ≡ true
  all_back xs ys all = (and_parts (list_all p xs) (list_all p ys) (sym (list_all-append p xs ys) ∙ all)).1

pub any_flat : {X Y : Type 0} (p : Y → Bool) (f : X → List Y) (xs : List X) → list_any p (flat_map f xs) ≡ list_any (λ x. list_any p (f x)) xs
any_flat p f [] = refl
any_flat p f (x ∷ xs) = list_any-append p (f x) (flat_map f xs) ∙ ap (λ t. list_any p (f x) || t) (any_flat p f xs)

pub any_map : {X Y : Type 0} (p : Y → Bool) (f : X → Y) (xs : List X) → list_any p (map f xs) ≡ list_any (λ x. p (f x)) xs
any_map p f [] = refl
any_map p f (x ∷ xs) = ap (λ t. p (f x) || t) (any_map p f xs)

pub length-filter_map : {X Y : Type 0} (f : X → Option Y) (xs : List X) → length (filter_map f xs) ≤ length xs
length-filter_map f [] = omega arith
length-filter_map {X} {Y} f (x ∷ xs) = step (f x) (length-filter_map f xs)
  where
    step : (o : Option Y) → length (filter_map f xs) ≤ length xs → length (cons_option o (filter_map f xs)) ≤ suc (length xs)
    step None rest = omega (arith, rest)
    step (Some y) rest = omega (arith, rest)

-- Elements by their places.

pub get-map : {X Y : Type 0} (f : X → Y) (xs : List X) (i : ℕ) (d : X) → get_or (map f xs) i (f d) ≡ f (get_or xs i d)
get-map f [] i d = refl
get-map f (x ∷ xs) zero d = refl
get-map f (x ∷ xs) (suc i) d = get-map f xs i d

-- an element changed in its place
pub map-at_place : {X Y : Type 0} (f : X → Y) (change : X → X) (xs : List X) (i : ℕ) (d : X)
    → map f (at_place i change xs) ≡ set (map f xs) i (f (change (get_or xs i d)))
map-at_place f change [] i d = refl
map-at_place f change (x ∷ xs) zero d = refl
map-at_place f change (x ∷ xs) (suc i) d = ap (λ ys. f x ∷ ys) (map-at_place f change xs i d)

pub map-at_same : {X Y : Type 0} (f : X → Y) (change : X → X) (xs : List X) (i : ℕ) → ((x : X) → f (change x) ≡ f x) → map f (at_place i change xs) ≡ map f xs
map-at_same f change [] i same = refl
map-at_same f change (x ∷ xs) zero same = ap (λ y. y ∷ map f xs) (same x)
map-at_same f change (x ∷ xs) (suc i) same = ap (λ ys. f x ∷ ys) (map-at_same f change xs i same)

pub position-map : {X Y : Type 0} (p : Y → Bool) (f : X → Y) (xs : List X) → position (λ x. p (f x)) xs ≡ position p (map f xs)
position-map {X} {Y} p f xs =
    ap (λ n. cond (ltb n (length xs)) (Some n) None) (places xs)
    ∙ ap (λ m. cond (ltb (position_or_len p (map f xs)) m) (Some (position_or_len p (map f xs))) None) (sym (length-map xs f))
  where
    places : (xs : List X) → position_or_len (λ x. p (f x)) xs ≡ position_or_len p (map f xs)
    places [] = refl
    places (x ∷ xs) = ap (λ n. cond (not (p (f x))) (1 + n) 0) (places xs)

pub find-map : {X Y : Type 0} (p : Y → Bool) (f : X → Y) (xs : List X) → option_map f (find (λ x. p (f x)) xs) ≡ find p (map f xs)
find-map p f [] = refl
find-map p f (x ∷ xs) = step (p (f x)) (find-map p f xs)
  where
    step : (t : Bool) → option_map f (find (λ x. p (f x)) xs) ≡ find p (map f xs)
        → option_map f (cond t (Some x) (find (λ x. p (f x)) xs)) ≡ cond t (Some (f x)) (find p (map f xs))
    step true rest = refl
    step false rest = rest

-- One more element behind a list.

pub slice-other : {X : Type 0} (xs : List X) (x : X) (i : ℕ) → i ≢ length xs → slice_get (xs ++ x ∷ []) i ≡ slice_get xs i
slice-other [] x zero other = absurd (other refl)
slice-other [] x (suc i) other = refl
slice-other (y ∷ xs) x zero other = refl
slice-other (y ∷ xs) x (suc i) other = slice-other xs x i (λ same. other (omega (arith, same)))

-- Each element of a list.
abbrev pub Each : {X : Type 0} → (X → Type 0) → List X → Type 0
Each P [] = Unit {0}
Each P (x ∷ xs) = P x × Each P xs

pub each-more : {X : Type 0} (P Q : X → Type 0) (xs : List X) → ((x : X) → P x → Q x) → Each P xs → Each Q xs
each-more P Q [] more all = tt
each-more P Q (x ∷ xs) more all = (more x all.0, each-more P Q xs more all.1)

pub each-both : {X : Type 0} (P Q : X → Type 0) (xs : List X) → Each P xs → Each Q xs → Each (λ x. P x × Q x) xs
each-both P Q [] one two = tt
each-both P Q (x ∷ xs) one two = ((one.0, two.0), each-both P Q xs one.1 two.1)

pub each-filter : {X : Type 0} (P : X → Type 0) (p : X → Bool) (xs : List X) → Each P xs → Each P (filter p xs)
each-filter P p [] all = tt
each-filter P p (x ∷ xs) all = step (p x) (each-filter P p xs all.1)
  where
    step : (t : Bool) → Each P (filter p xs) → Each P (cond t (x ∷ filter p xs) (filter p xs))
    step true rest = (all.0, rest)
    step false rest = rest

-- what is found is one of the list
pub each-found : {X : Type 0} (P : X → Type 0) (p : X → Bool) (xs : List X) (x : X) → Each P xs → find p xs ≡ Some x → P x
each-found P p [] x all found = cc found
each-found P p (y ∷ ys) x all found = step (p y) found (each-found P p ys x all.1)
  where
    step : (t : Bool) → cond t (Some y) (find p ys) ≡ Some x → (find p ys ≡ Some x → P x) → P x
    step true is rest = let same : y ≡ x = cc is in subst P same all.0
    step false is rest = rest is

-- tests that agree on each element keep the same ones
pub filter-each : {X : Type 0} (p q : X → Bool) (xs : List X) → Each (λ x. p x ≡ q x) xs → filter p xs ≡ filter q xs
filter-each p q [] same = refl
filter-each p q (x ∷ xs) same = ap (λ t. cond t (x ∷ filter p xs) (filter p xs)) same.0 ∙ ap (λ ys. cond (q x) (x ∷ ys) ys) (filter-each p q xs same.1)

pub each-all : {X : Type 0} (P : X → Type 0) (xs : List X) → ((x : X) → P x) → Each P xs
each-all P [] every = tt
each-all P (x ∷ xs) every = (every x, each-all P xs every)

-- what passes two tests, one after the other
pub filter-twice : {X : Type 0} (f g : X → Bool) (xs : List X) → filter (λ x. not (f x || g x)) xs ≡ filter (λ x. not (g x)) (filter (λ x. not (f x)) xs)
filter-twice f g [] = refl
filter-twice f g (x ∷ xs) = step (f x) (g x) refl (filter-twice f g xs)
  where
    step : (s t : Bool) → g x ≡ t → filter (λ x. not (f x || g x)) xs ≡ filter (λ x. not (g x)) (filter (λ x. not (f x)) xs)
        → cond (not (s || t)) (x ∷ filter (λ x. not (f x || g x)) xs) (filter (λ x. not (f x || g x)) xs)
        ≡ filter (λ x. not (g x)) (cond (not s) (x ∷ filter (λ x. not (f x)) xs) (filter (λ x. not (f x)) xs))
    step true t is rest = rest
    step false true is rest = rest
        ∙ ap (λ t. cond (not t) (x ∷ filter (λ x. not (g x)) (filter (λ x. not (f x)) xs)) (filter (λ x. not (g x)) (filter (λ x. not (f x)) xs))) (sym is)
    step false false is rest =
        ap (λ ys. x ∷ ys) rest
        ∙ ap (λ t. cond (not t) (x ∷ filter (λ x. not (g x)) (filter (λ x. not (f x)) xs)) (filter (λ x. not (g x)) (filter (λ x. not (f x)) xs))) (sym is)

pub filter-map : {X Y : Type 0} (q : Y → Bool) (f : X → Y) (xs : List X) → map f (filter (λ x. q (f x)) xs) ≡ filter q (map f xs)
filter-map q f [] = refl
filter-map q f (x ∷ xs) = step (q (f x)) (filter-map q f xs)
  where
    step : (t : Bool) → map f (filter (λ x. q (f x)) xs) ≡ filter q (map f xs)
        → map f (cond t (x ∷ filter (λ x. q (f x)) xs) (filter (λ x. q (f x)) xs)) ≡ cond t (f x ∷ filter q (map f xs)) (filter q (map f xs))
    step true rest = ap (λ ys. f x ∷ ys) rest
    step false rest = rest

-- two tests that agree but for one place, where the first one passes
pub map-set_one : {X : Type 0} (f g : X → Bool) (xs : List X) (n : ℕ) → ((i : ℕ) (x : X) → slice_get xs i ≡ Some x → i ≡ n → f x ≡ true)
    → ((i : ℕ) (x : X) → slice_get xs i ≡ Some x → i ≢ n → f x ≡ g x)
    → map f xs ≡ set (map g xs) n true
map-set_one f g [] n here others = refl
map-set_one {X} f g (x ∷ xs) zero here others =
    ap (λ b. b ∷ map f xs) (here 0 x refl refl) ∙ ap (λ bs. true ∷ bs) (alike xs (λ i y there. others (suc i) y there (λ e. absurd (omega (arith, e)))))
  where
    alike : (ys : List X) → ((i : ℕ) (y : X) → slice_get ys i ≡ Some y → f y ≡ g y) → map f ys ≡ map g ys
    alike [] same = refl
    alike (y ∷ ys) same = ap (λ b. b ∷ map f ys) (same 0 y refl) ∙ ap (λ bs. g y ∷ bs) (alike ys (λ i z there. same (suc i) z there))
map-set_one f g (x ∷ xs) (suc n) here others =
    ap (λ b. b ∷ map f xs) (others 0 x refl (λ e. absurd (omega (arith, e))))
    ∙ ap (λ bs. g x ∷ bs)
    (map-set_one f g xs n (λ i y there same. here (suc i) y there (ap suc same))
    (λ i y there differs. others (suc i) y there (λ e. differs (omega (arith, e)))))
