-- How pairs of runs are counted.
use Rattle.std.proofs.Common.{◌≡◌, ◌≤◌, ℕ, ◌+◌, ◌*◌, ◌-◌, ◌^◌, ◌<◌, ◌==◌, zero, suc, Bool, true, false, cond, ◌&&◌, ◌||◌, List, [], ◌∷◌, Option, Some, None, length, refl, sym, ap, ◌∙◌, arith}
use Rattle.std.specs.Prelude.{nat_lt, take, drop, map}
use Rattle.std.proofs.Math.Nat.{add-zero, mul-suc, suc-mul}
use Rattle.std.proofs.lemmas.Bool.{eqb-false, eqb-true, le-ltb, ltb-false, ltb-true}
use Rattle.std.proofs.lemmas.List.{length-take}
use Rattle.std.specs.List.{cons_option}
use Rattle.std.proofs.Math.Bool.{or_comm, and_comm}
use Rattle.rulebook.specs.Spelling.{differ}
use Rattle.rulebook.specs.declared.systems.System.{System}
use Rattle.rulebook.specs.Reports.Systems.{runs_of}
use Rattle.archive_reports.specs.Comparisons.{Maps, common_runs, count, count_pairs, is_concordant, is_discordant, is_tied, maps_of, pairs_among, pairs_of}
use Rattle.archive_reports.specs.PairCounts.{PairsMayGrow, joined_pairs, present}
use Rattle.archive_reports.specs.declared.comparisons.Pairs.{Pairs}
use Rattle.archive_reports.proofs.Evenness.{same-common, same-pairs}

lt-itself : (n : ℕ) → nat_lt n n ≡ false
lt-itself n = le-ltb n n (omega arith)

both-comm : (p q r s : Bool) → ((p && q) || (r && s)) ≡ ((q && p) || (s && r))
both-comm p q r s = ap (λ t. t || (r && s)) (and_comm p q) ∙ ap (λ t. (q && p) || t) (and_comm r s)

pub concordant-even : (a b : List System) → differ (runs_of a) ≡ true → differ (runs_of b) ≡ true
    → count_pairs is_concordant (common_runs a b) ≡ count_pairs is_concordant (common_runs b a)
concordant-even a b first second =
    same-pairs a b first second is_concordant
    (λ x y. or_comm (nat_lt x.0 y.0 && nat_lt x.1 y.1) (nat_lt y.0 x.0 && nat_lt y.1 x.1))
    (λ x. ap (λ t. (t && nat_lt x.1 x.1) || (t && nat_lt x.1 x.1)) (lt-itself x.0))
    (λ x y. both-comm (nat_lt x.1 y.1) (nat_lt x.0 y.0) (nat_lt y.1 x.1) (nat_lt y.0 x.0))

pub discordant-even : (a b : List System) → differ (runs_of a) ≡ true → differ (runs_of b) ≡ true
    → count_pairs is_discordant (common_runs a b) ≡ count_pairs is_discordant (common_runs b a)
discordant-even a b first second =
    same-pairs a b first second is_discordant
    (λ x y. or_comm (nat_lt x.0 y.0 && nat_lt y.1 x.1) (nat_lt y.0 x.0 && nat_lt x.1 y.1))
    (λ x. ap (λ t. (t && nat_lt x.1 x.1) || (t && nat_lt x.1 x.1)) (lt-itself x.0))
    (λ x y. or_comm (nat_lt x.1 y.1 && nat_lt y.0 x.0) (nat_lt y.1 x.1 && nat_lt x.0 y.0)
    ∙ both-comm (nat_lt y.1 x.1) (nat_lt x.0 y.0) (nat_lt x.1 y.1) (nat_lt y.0 x.0))

-- of two numbers the one is less, or the other, or they are equal
three : (a b : ℕ) (P : Bool → Bool → Bool → Type 0) → P true false false → P false true false → P false false true → P (nat_lt a b) (nat_lt b a) (a == b)
three a b P less greater equal = step (nat_lt a b) (nat_lt b a) (a == b) refl refl refl
  where
    step : (l g e : Bool) → nat_lt a b ≡ l → nat_lt b a ≡ g → (a == b) ≡ e → P l g e
    step true true e p q r = let up = ltb-true a b p in let down = ltb-true b a q in absurd (omega (arith, up, down))
    step true false true p q r = let up = ltb-true a b p in let same = eqb-true a b r in absurd (omega (arith, up, same))
    step true false false p q r = less
    step false true true p q r = let down = ltb-true b a q in let same = eqb-true a b r in absurd (omega (arith, down, same))
    step false true false p q r = greater
    step false false true p q r = equal
    step false false false p q r = let one = ltb-false a b p in let other = ltb-false b a q in absurd (eqb-false a b r (omega (arith, one, other)))

lower : (n : ℕ) → n * (n - 1) + n ≡ n * n
lower zero = refl
lower (suc m) =
    let one : suc m - 1 ≡ m = omega arith in
    ap (λ k. suc m * k + suc m) one ∙ sym (mul-suc (suc m) m)

-- a pair is one of the three
one-of : (x y : Maps) → cond (is_concordant x y) 1 0 + cond (is_discordant x y) 1 0 + cond (is_tied x y) 1 0 ≡ 1
one-of x y =
    three x.0 y.0
    (λ l g e. cond ((l && nat_lt x.1 y.1) || (g && nat_lt y.1 x.1)) 1 0 + cond ((l && nat_lt y.1 x.1) || (g && nat_lt x.1 y.1)) 1 0 + cond (e || x.1 == y.1) 1 0
    ≡ 1)
    (three x.1 y.1 (λ l g e. cond ((true && l) || (false && g)) 1 0 + cond ((true && g) || (false && l)) 1 0 + cond (false || e) 1 0 ≡ 1) refl refl refl)
    (three x.1 y.1 (λ l g e. cond ((false && l) || (true && g)) 1 0 + cond ((false && g) || (true && l)) 1 0 + cond (false || e) 1 0 ≡ 1) refl refl refl)
    refl

all-counted : (x : Maps) (xs : List Maps) → count (is_concordant x) xs + count (is_discordant x) xs + count (is_tied x) xs ≡ length xs
all-counted x [] = refl
all-counted x (y ∷ ys) = let one = one-of x y in let rest = all-counted x ys in omega (arith, one, rest)

pub pairs-sum : (xs : List Maps) → 2 * (count_pairs is_concordant xs + count_pairs is_discordant xs + count_pairs is_tied xs) ≡ length xs * (length xs - 1)
pairs-sum [] = refl
pairs-sum (x ∷ xs) = let here = all-counted x xs in let rest = pairs-sum xs in step (length xs) here rest
  where
    step : (n : ℕ) → count (is_concordant x) xs + count (is_discordant x) xs + count (is_tied x) xs ≡ n
        → 2 * (count_pairs is_concordant xs + count_pairs is_discordant xs + count_pairs is_tied xs) ≡ n * (n - 1)
        → 2 * ((count (is_concordant x) xs + count_pairs is_concordant xs) + (count (is_discordant x) xs + count_pairs is_discordant xs)
        + (count (is_tied x) xs + count_pairs is_tied xs)) ≡ suc n * (suc n - 1)
    step n here rest =
        let square : suc n * n ≡ n * n + n = suc-mul n n in
        let less : n * (n - 1) + n ≡ n * n = lower n in
        let before : suc n * (suc n - 1) ≡ suc n * n = let one : suc n - 1 ≡ n = omega arith in ap (λ k. suc n * k) one in
        omega (arith, here, rest, square, less, before)

tied-even : (a b : List System) → differ (runs_of a) ≡ true → differ (runs_of b) ≡ true
    → count_pairs is_tied (common_runs a b) ≡ count_pairs is_tied (common_runs b a)
tied-even a b first second =
    let one = pairs-sum (common_runs a b) in
    let other = pairs-sum (common_runs b a) in
    let lengths : length (common_runs a b) * (length (common_runs a b) - 1) ≡ length (common_runs b a) * (length (common_runs b a) - 1) =
    ap (λ n. n * (n - 1)) (same-common a b first second) in
    let c = concordant-even a b first second in
    let d = discordant-even a b first second in
    omega (arith, one, other, lengths, c, d)

pub pairs-even : (a b : List System) → differ (runs_of a) ≡ true → differ (runs_of b) ≡ true → pairs_of a b ≡ pairs_of b a
pairs-even a b first second = λ i. record {
  common = same-common a b first second i;
  concordant = concordant-even a b first second i;
  discordant = discordant-even a b first second i;
  tied = tied-even a b first second i;
}

-- How large the counts may be

count-le : {X : Type 0} (p : X → Bool) (xs : List X) → count p xs ≤ length xs
count-le p [] = omega arith
count-le p (x ∷ xs) = let rest = count-le p xs in step (p x) rest
  where
    step : (t : Bool) → count p xs ≤ length xs → cond t 1 0 + count p xs ≤ suc (length xs)
    step true rest = omega (arith, rest)
    step false rest = omega (arith, rest)

count_pairs-le : {X : Type 0} (p : X → X → Bool) (xs : List X) → length xs ≤ 256 → count_pairs p xs ≤ 256 * length xs
count_pairs-le p [] few = omega arith
count_pairs-le p (x ∷ xs) few =
    let here = count-le (p x) xs in
    let rest = count_pairs-le p xs (omega (arith, few)) in
    omega (arith, here, rest, few)

present-le : (found : List (Option Maps)) → length (present found) ≤ length found
present-le [] = omega arith
present-le (Some maps ∷ found) = let rest = present-le found in omega (arith, rest)
present-le (None ∷ found) = let rest = present-le found in omega (arith, rest)

pub has-room : (pairs : Pairs) (left found : List (Option Maps)) (more : ℕ) → length found ≤ 256
    → joined_pairs pairs (pairs_among (present left)) ≡ pairs_among (present found) → more ≤ 256 → PairsMayGrow pairs more
has-room pairs left found more few is bound =
    let most = present-le found in
    let fits : length (present found) ≤ 256 = omega (arith, most, few) in
    let c = ap (λ (p : Pairs). p.common) is in
    let d = ap (λ (p : Pairs). p.concordant) is in
    let e = ap (λ (p : Pairs). p.discordant) is in
    let f = ap (λ (p : Pairs). p.tied) is in
    let dl = count_pairs-le is_concordant (present found) fits in
    let el = count_pairs-le is_discordant (present found) fits in
    let fl = count_pairs-le is_tied (present found) fits in
    record {
      concordant = omega (arith, d, dl, fits, bound);
      discordant = omega (arith, e, el, fits, bound);
      tied = omega (arith, f, fl, fits, bound);
    }

pub has-common : (pairs : Pairs) (left found : List (Option Maps)) → length found ≤ 256
    → joined_pairs pairs (pairs_among (present left)) ≡ pairs_among (present found) → pairs.common < 2 ^ 32 - 1
has-common pairs left found few is =
    let most = present-le found in
    let c = ap (λ (p : Pairs). p.common) is in
    omega (arith, most, few, c)

take-le : {X : Type 0} (n : ℕ) (xs : List X) → length (take n xs) ≤ length xs
take-le n xs = let is = length-take n xs in omega (arith, is)

-- a part of some runs is no longer
pub part-le : {X : Type 0} (n most : ℕ) (xs : List X) → length xs ≤ most → length (take n (drop 1 xs)) ≤ most
part-le {X = X} n most [] few = let none = take-le {X = X} n [] in omega (arith, none, few)
part-le n most (x ∷ xs) few = let less = take-le n xs in omega (arith, less, few)

-- where no run is left, the counts are all
pub at-end : (pairs : Pairs) (left found : List (Option Maps)) → length left < 1 → joined_pairs pairs (pairs_among (present left)) ≡ pairs_among (present found)
    → pairs ≡ pairs_among (present found)
at-end pairs [] found none is = by (add-zero pairs.common) (add-zero pairs.concordant) (add-zero pairs.discordant) (add-zero pairs.tied) ∙ is
  where
    by : pairs.common + 0 ≡ pairs.common → pairs.concordant + 0 ≡ pairs.concordant → pairs.discordant + 0 ≡ pairs.discordant
        → pairs.tied + 0 ≡ pairs.tied → pairs ≡ joined_pairs pairs (pairs_among (present []))
    by a b c d = λ i. record { common = sym a i; concordant = sym b i; discordant = sym c i; tied = sym d i }
at-end pairs (x ∷ xs) found some is = absurd (omega (arith, some))

-- the maps that are there, of each system's
pub present-map : (others systems : List System) → present (map (maps_of others) systems) ≡ common_runs systems others
present-map others [] = refl
present-map others (system ∷ systems) = ap (cons_option (maps_of others system)) (present-map others systems)
