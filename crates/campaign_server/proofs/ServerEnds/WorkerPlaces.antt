-- The places of what workers added: no two workers have one, and those of a pass are its own.
use Rattle.std.proofs.Common.{◌≡◌, ⊎_elim, ℕ, suc, ◌<◌, Bool, true, false, cond, List, [], ◌∷◌, ◌++◌, map, refl, sym, ap, subst, arith}
use Rattle.std.specs.Prelude.{nat_lt}
use Rattle.std.specs.List.{Contains}
use Rattle.std.proofs.lemmas.List.Elements.{Contains-append_cases, Contains-append_left, Contains-append_right}
use Rattle.decimal_rank.proofs.Lists.{first_or_later, has_later, none_there}
use Rattle.hall.specs.Places.{Apart, Rises, place_inserted, places_merged}
use Rattle.campaign_server.specs.Crews.Workers.{AreOwn}

first_there : (x p : ℕ) (xs : List ℕ) → x ≡ p → Contains (x ∷ xs) p
first_there x p xs same = (0, omega arith, same)

-- The places of a record, those of the others, and those of further ones.
module _ (own rest ys all : List ℕ) (is : all ≡ own ++ rest) (apart : Apart all ys) where
  pub rest_apart : Apart rest ys
  rest_apart p a b = apart p (subst (λ (ps : List ℕ). Contains ps p) (sym is) (Contains-append_right own rest p a)) b

  pub own_apart : Apart own rest → Apart own (rest ++ ys)
  own_apart first p a b = ⊎_elim
      (λ (x : Contains rest p). first p a x)
      (λ (y : Contains ys p). apart p (subst (λ (ps : List ℕ). Contains ps p) (sym is) (Contains-append_left own rest p a)) y)
      (Contains-append_cases rest ys p b)

-- and of fewer of the others
pub front_apart : (own part more : List ℕ) → Apart own (part ++ more) → Apart own part
front_apart own part more apart p a b = apart p a (Contains-append_left part more p b)

pub none_apart : (own : List ℕ) → Apart own []
none_apart own p a b = none_there p b

-- The places that a pass gained are behind those that it had

above : (from to p : ℕ) (ps : List ℕ) → Rises from ps to → Contains ps p → from < p
above from to p [] rises there = absurd (none_there p there)
above from to p (q ∷ ps) rises there = ⊎_elim
    (λ (same : q ≡ p). subst (λ (n : ℕ). from < n) same rises.0)
    (λ (rest : Contains ps p). let a : from < q = rises.0 in let b : q < p = above q to p ps rises.1 rest in omega arith)
    (first_or_later q ps p there)

rising_apart : (from to : ℕ) (xs ys : List ℕ) → Rises from (xs ++ ys) to → Apart xs ys
rising_apart from to [] ys rises p a b = absurd (none_there p a)
rising_apart from to (x ∷ xs) ys rises p a b = ⊎_elim
    (λ (same : x ≡ p). let less : x < p = above x to p (xs ++ ys) rises.1 (Contains-append_right xs ys p b) in omega (arith, less, same))
    (λ (rest : Contains xs p). rising_apart x to xs ys rises.1 p rest b)
    (first_or_later x xs p a)

suc_there : (p : ℕ) (xs : List ℕ) → Contains xs p → Contains (map suc xs) (suc p)
suc_there p [] there = absurd (none_there p there)
suc_there p (x ∷ xs) there = ⊎_elim
    (λ (same : x ≡ p). first_there (suc x) (suc p) (map suc xs) (ap suc same))
    (λ (rest : Contains xs p). has_later (suc x) (map suc xs) (suc p) (suc_there p xs rest))
    (first_or_later x xs p there)

pub own_none : (mine : List ℕ) → AreOwn mine []
own_none mine place there = absurd (none_there place there)

pub own_more : (mine places more : List ℕ) → AreOwn mine places → AreOwn (mine ++ map suc more) (places ++ more)
own_more mine places more own place there = ⊎_elim
    (λ (a : Contains places place). Contains-append_left mine (map suc more) (suc place) (own place a))
    (λ (b : Contains more place). Contains-append_right mine (map suc more) (suc place) (suc_there place more b))
    (Contains-append_cases places more place there)

pub gained_apart : (mine places more : List ℕ) (to : ℕ) → AreOwn mine places → Rises 0 (mine ++ map suc more) to → Apart places more
gained_apart mine places more to own rises place a b = rising_apart 0 to mine (map suc more) rises (suc place) (own place a) (suc_there place more b)

-- Two passes that are made one

placed_there : (p : ℕ) (xs : List ℕ) → Contains (place_inserted p xs) p
placed_there p [] = first_there p p [] refl
placed_there p (x ∷ xs) = step (nat_lt p x) (placed_there p xs)
  where
    step : (t : Bool) → Contains (place_inserted p xs) p → Contains (cond t (p ∷ x ∷ xs) (x ∷ place_inserted p xs)) p
    step true known = first_there p p (x ∷ xs) refl
    step false known = has_later x (place_inserted p xs) p known

placed_keeps : (p q : ℕ) (xs : List ℕ) → Contains xs q → Contains (place_inserted p xs) q
placed_keeps p q [] there = absurd (none_there q there)
placed_keeps p q (x ∷ xs) there = step (nat_lt p x) (placed_keeps p q xs)
  where
    step : (t : Bool) → (Contains xs q → Contains (place_inserted p xs) q) → Contains (cond t (p ∷ x ∷ xs) (x ∷ place_inserted p xs)) q
    step true known = has_later p (x ∷ xs) q there
    step false known =
        ⊎_elim (λ (same : x ≡ q). first_there x q (place_inserted p xs) same)
        (λ (rest : Contains xs q). has_later x (place_inserted p xs) q (known rest)) (first_or_later x xs q there)

merged_first : (q : ℕ) (xs ys : List ℕ) → Contains xs q → Contains (places_merged xs ys) q
merged_first q xs [] there = there
merged_first q xs (y ∷ ys) there = placed_keeps y q (places_merged xs ys) (merged_first q xs ys there)

merged_second : (q : ℕ) (xs ys : List ℕ) → Contains ys q → Contains (places_merged xs ys) q
merged_second q xs [] there = absurd (none_there q there)
merged_second q xs (y ∷ ys) there = ⊎_elim
    (λ (same : y ≡ q). subst (λ (p : ℕ). Contains (places_merged xs (y ∷ ys)) p) same (placed_there y (places_merged xs ys)))
    (λ (rest : Contains ys q). placed_keeps y q (places_merged xs ys) (merged_second q xs ys rest))
    (first_or_later y ys q there)

pub own_both : (mine other places more : List ℕ) → AreOwn mine places → AreOwn other more → AreOwn (places_merged mine other) (places ++ more)
own_both mine other places more first second place there = ⊎_elim
    (λ (a : Contains places place). merged_first (suc place) mine other (first place a))
    (λ (b : Contains more place). merged_second (suc place) mine other (second place b))
    (Contains-append_cases places more place there)

pub both_apart : (mine other places more : List ℕ) → Apart mine other → AreOwn mine places → AreOwn other more → Apart places more
both_apart mine other places more apart first second place a b = apart (suc place) (first place a) (second place b)
