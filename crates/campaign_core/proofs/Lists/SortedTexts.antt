-- Borrowed texts that are sorted, each once.
use Rattle.std.proofs.Common.{◌≡◌, ◌||◌, suc, Bool, true, false, not, cond, List, [], ◌∷◌, le_of_lt, refl, sym, ap, ◌∙◌, arith, Ordering, Less, Equal, Greater, Bor, map}
use Rattle.std.specs.Cmp.{IsStrictWeakOrder}
use Rattle.std.specs.List.{All, AllPairs, dedup, dedup_from, list_all, list_any, AllByRecursion, IsDistinct}
use Rattle.std.specs.List.Sorted.{IsPermutation, IsSortedBy}
use Rattle.std.specs.Ordering.{is_lt}
use Rattle.std.specs.Str.{bytes_eq}
use Rattle.std.proofs.lemmas.Bool.{false≢true, not-true}
use Rattle.std.proofs.lemmas.Cmp.{nat_list_cmp_total}
use Rattle.std.proofs.lemmas.List.Sorted.{IsPermutation-map, list_any-IsPermutation, ranks_by, sorted_far}
use Rattle.std.proofs.lemmas.Slice.Eq.{bytes_eq-Decides}
use Rattle.decimal_rank.proofs.TruthValues.{or_twice, bytes_eq-swap}
use Rattle.decimal_rank.proofs.Lists.{all_head, all_tail}
use Rattle.rulebook.specs.Words.{Text, in_order}
use Rattle.campaign_core.specs.Texts.{texts_behind}
use Rattle.campaign_core.proofs.Lists.Elements.{all_cons}
use Rattle.campaign_core.proofs.Lists.ByteOrder.{Rises, below, greater_flips, in_order-is, less_from, same_text, text_cmp}
use Rattle.std.proofs.lemmas.Map.Keys.{IsDistinct-IsPermutation}
use Rattle.rulebook.specs.Spelling.{differ}
use Rattle.campaign_core.proofs.Lists.DistinctTexts.{distinct}

-- no text is below an earlier one
abbrev Climbs : List Text → Type 0
Climbs [] = Unit {0}
Climbs (x ∷ xs) = (list_all (λ y. not (below y x)) xs ≡ true) × Climbs xs

none_below : {X : Type 0} (f : X → Text) (x : X) (xs : List X) → All (λ y. below (f y) (f x) ≡ false) xs
    → list_all (λ y. not (below y (f x))) (map f xs) ≡ true
none_below f x [] all = refl
none_below f x (y ∷ xs) all =
    all_cons (λ y. not (below y (f x))) (f y) (map f xs) (ap not (all 0 y (omega arith)))
    (none_below f x xs (λ k d within. all (suc k) d (omega (arith, within))))

climbs_shown : {X : Type 0} (f : X → Text) (xs : List X) → AllPairs (λ a b. below (f b) (f a) ≡ false) xs → Climbs (map f xs)
climbs_shown f [] up = tt
climbs_shown f (x ∷ xs) up = (
  none_below f x xs (λ k d within. up 0 (suc k) d (omega arith) (omega (arith, within))),
  climbs_shown f xs (λ i j d less within. up (suc i) (suc j) d (omega (arith, less)) (omega (arith, within))),
)

-- What is left where each text stands once.

from_below : (k x y : Text) → below k x ≡ true → below y x ≡ false → below k y ≡ true
from_below k x y less not_less = step (text_cmp x y) refl
  where
    step : (o : Ordering) → text_cmp x y ≡ o → below k y ≡ true
    step Less is = ap is_lt (nat_list_cmp_total.trans k x y (less_from k x less) is)
    step Equal is = ap (below k) (sym (same_text x y is)) ∙ less
    step Greater is = absurd (false≢true (sym not_less ∙ greater_flips x y is))

all_from_below : (k x : Text) (xs : List Text) → below k x ≡ true → list_all (λ y. not (below y x)) xs ≡ true → list_all (below k) xs ≡ true
all_from_below k x [] less all = refl
all_from_below k x (y ∷ xs) less all =
    all_cons (below k) y xs (from_below k x y less (not-true (below y x) (all_head (λ y. not (below y x)) y xs all)))
    (all_from_below k x xs less (all_tail (λ y. not (below y x)) y xs all))

all_dedup : (p : Text → Bool) (k : Text) (xs : List Text) → p k ≡ true → list_all p xs ≡ true → list_all p (dedup_from bytes_eq k xs) ≡ true
all_dedup p k [] here all = all_cons p k [] here refl
all_dedup p k (x ∷ xs) here all =
    step (bytes_eq x k) (all_dedup p k xs here (all_tail p x xs all)) (all_dedup p x xs (all_head p x xs all) (all_tail p x xs all))
  where
    step : (t : Bool) → list_all p (dedup_from bytes_eq k xs) ≡ true → list_all p (dedup_from bytes_eq x xs) ≡ true
        → list_all p (cond t (dedup_from bytes_eq k xs) (k ∷ dedup_from bytes_eq x xs)) ≡ true
    step true kept later = kept
    step false kept later = all_cons p k (dedup_from bytes_eq x xs) here later

above : (k x : Text) → bytes_eq x k ≡ false → below x k ≡ false → below k x ≡ true
above k x differs not_less = step (text_cmp x k) refl
  where
    step : (o : Ordering) → text_cmp x k ≡ o → below k x ≡ true
    step Less is = absurd (false≢true (sym not_less ∙ ap is_lt is))
    step Equal is = absurd (false≢true (sym differs ∙ (bytes_eq-Decides x k).1 (same_text x k is)))
    step Greater is = greater_flips x k is

rises_from : (k : Text) (xs : List Text) → list_all (λ y. not (below y k)) xs ≡ true → Climbs xs → Rises (dedup_from bytes_eq k xs)
rises_from k [] all up = (refl, tt)
rises_from k (x ∷ xs) all up =
    step (bytes_eq x k) refl (rises_from k xs (all_tail (λ y. not (below y k)) x xs all) up.1) (rises_from x xs up.0 up.1)
  where
    step : (t : Bool) → bytes_eq x k ≡ t → Rises (dedup_from bytes_eq k xs) → Rises (dedup_from bytes_eq x xs)
        → Rises (cond t (dedup_from bytes_eq k xs) (k ∷ dedup_from bytes_eq x xs))
    step true is kept later = kept
    step false is kept later =
        let less : below k x ≡ true = above k x is (not-true (below x k) (all_head (λ y. not (below y k)) x xs all)) in
        (all_dedup (below k) x xs less (all_from_below k x xs less up.0), later)

any_from : (p : Text → Bool) (k : Text) (xs : List Text) → list_any p (dedup_from bytes_eq k xs) ≡ (p k || list_any p xs)
any_from p k [] = refl
any_from p k (x ∷ xs) = step (bytes_eq x k) refl (any_from p k xs) (any_from p x xs)
  where
    step : (t : Bool) → bytes_eq x k ≡ t → list_any p (dedup_from bytes_eq k xs) ≡ (p k || list_any p xs)
        → list_any p (dedup_from bytes_eq x xs) ≡ (p x || list_any p xs)
        → list_any p (cond t (dedup_from bytes_eq k xs) (k ∷ dedup_from bytes_eq x xs)) ≡ (p k || (p x || list_any p xs))
    step true is kept later = kept ∙ or_twice (p k) (list_any p xs) ∙ ap (λ y. p k || (p y || list_any p xs)) (sym ((bytes_eq-Decides x k).0 is))
    step false is kept later = ap (λ t. p k || t) later

rises : (xs : List Text) → Climbs xs → Rises (dedup bytes_eq xs)
rises [] up = tt
rises (x ∷ xs) up = rises_from x xs up.0 up.1

any_dedup : (p : Text → Bool) (xs : List Text) → list_any p (dedup bytes_eq xs) ≡ list_any p xs
any_dedup p [] = refl
any_dedup p (x ∷ xs) = any_from p x xs

abbrev pub same_now : Bor Text → Bor Text → Bool
same_now a b = bytes_eq a.now b.now

shown_from : (k : Bor Text) (xs : List (Bor Text)) → texts_behind (dedup_from same_now k xs) ≡ dedup_from bytes_eq k.now (texts_behind xs)
shown_from k [] = refl
shown_from k (x ∷ xs) = step (bytes_eq x.now k.now) (shown_from k xs) (shown_from x xs)
  where
    step : (t : Bool) → texts_behind (dedup_from same_now k xs) ≡ dedup_from bytes_eq k.now (texts_behind xs)
        → texts_behind (dedup_from same_now x xs) ≡ dedup_from bytes_eq x.now (texts_behind xs)
        → texts_behind (cond t (dedup_from same_now k xs) (k ∷ dedup_from same_now x xs))
        ≡ cond t (dedup_from bytes_eq k.now (texts_behind xs)) (k.now ∷ dedup_from bytes_eq x.now (texts_behind xs))
    step true kept later = kept
    step false kept later = ap (λ ts. k.now ∷ ts) later

shown_dedup : (xs : List (Bor Text)) → texts_behind (dedup same_now xs) ≡ dedup bytes_eq (texts_behind xs)
shown_dedup [] = refl
shown_dedup (x ∷ xs) = shown_from x xs

abbrev pub before : Bor Text → Bor Text → Bool
before a b = below a.now b.now

before_order : IsStrictWeakOrder before
before_order = ranks_by nat_list_cmp_total (λ (text : Bor Text). text.now)

-- what a sort and then `dedup` leave
pub sorted_once : (texts sorted : List (Bor Text)) → IsPermutation texts sorted → IsSortedBy before sorted
    → texts_behind (dedup same_now sorted) ≡ in_order (texts_behind texts)
sorted_once texts sorted moved up =
    let once = rises (texts_behind sorted)
    (climbs_shown (λ (text : Bor Text). text.now) sorted (λ i j d less within. sorted_far before before_order sorted up i j d (le_of_lt less) within)) in
    shown_dedup sorted
    ∙ in_order-is (texts_behind texts) (dedup bytes_eq (texts_behind sorted)) once
    (λ t. any_dedup (bytes_eq t) (texts_behind sorted)
    ∙ sym (list_any-IsPermutation (bytes_eq t) (texts_behind texts) (texts_behind sorted)
    (IsPermutation-map (λ (text : Bor Text). text.now) texts sorted moved)))

-- Texts that differ rise once they are sorted.

each_above : (x : Text) (xs : List Text) → list_all (λ y. not (below y x)) xs ≡ true → AllByRecursion (λ y. bytes_eq x y ≡ false) xs
    → list_all (below x) xs ≡ true
each_above x [] all apart = refl
each_above x (y ∷ xs) all apart =
    all_cons (below x) y xs
    (above x y (bytes_eq-swap y x ∙ apart.0) (not-true (below y x) (all_head (λ y. not (below y x)) y xs all)))
    (each_above x xs (all_tail (λ y. not (below y x)) y xs all) apart.1)

rises_apart : (xs : List Text) → Climbs xs → IsDistinct bytes_eq xs → Rises xs
unfolding IsDistinct
rises_apart [] up once = tt
rises_apart (x ∷ xs) up once = (each_above x xs up.0 once.0, rises_apart xs up.1 once.1)

-- what a sort by their texts leaves of items
pub sorted_texts : {X : Type 0} (f : X → Text) (items sorted : List X) → IsPermutation items sorted → IsSortedBy (λ a b. below (f a) (f b)) sorted
    → differ (map f items) ≡ true → map f sorted ≡ in_order (map f items)
sorted_texts {X} f items sorted moved up differs =
    let lt : X → X → Bool = λ a b. below (f a) (f b) in
    let order : IsStrictWeakOrder lt = ranks_by nat_list_cmp_total f in
    let texts_moved = IsPermutation-map f items sorted moved in
    let once = IsDistinct-IsPermutation bytes_eq bytes_eq-swap (map f items) (map f sorted) texts_moved (distinct (map f items) differs) in
    in_order-is (map f items) (map f sorted)
    (rises_apart (map f sorted) (climbs_shown f sorted (λ i j d less within. sorted_far lt order sorted up i j d (le_of_lt less) within)) once)
    (λ t. sym (list_any-IsPermutation (bytes_eq t) (map f items) (map f sorted) texts_moved))
