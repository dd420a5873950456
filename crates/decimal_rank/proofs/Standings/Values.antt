-- The order of decimal values.
use Rattle.std.proofs.Common.{Ordering, Less, Equal, Greater, pow-add, ◌≡◌, ℕ, zero, suc, ◌+◌, ◌*◌, ◌/◌, ◌^◌, ◌<◌, ◌≤◌, Bool, true, false, cond, ltb, refl, sym, ap, ◌∙◌, arith, zero-mul, mul_assoc, mul-le-mul_right, mul-le-mul_left, mul-pos, pos_of_ne-zero, subst, inl, inr, ◌⊎◌, ℤ, pos, negsuc, neg_ℤ, ◌+ℤ◌, ◌≤ℤ◌, ◌<ℤ◌, int_lt}
use Rattle.std.proofs.Math.Nat.{mul-lt-mul_of_pos_right, one-le-pow, pow-le-pow_right, add-mul}
use Rattle.std.proofs.lemmas.Bool.{false≢true}
use Rattle.std.proofs.lemmas.Bool.Decides.{nat_tests}
use borrow.Author.Tests.{lt-ltb}
use Rattle.std.proofs.lemmas.Cmp.{int_cmp_total, on_total}
use Rattle.std.specs.Cmp.{IsTotalOrder, int_ranks, nat_cmp_is}
use Rattle.std.specs.Int.{int_gap, int_min}
use Rattle.std.specs.Ordering.{MatchOrdering, nat_cmp, int_cmp, ordering_then, ordering_reverse, on}
use Rattle.std.proofs.lemmas.Int.{ints, clamps}
use Rattle.decimal_rank.specs.Decimals.Decimal.{DecimalValue, signed_number, in_units, decimal_cmp, magnitude_of}
use Rattle.decimal_rank.specs.Decimals.AlignedDigits.{aligned_value, IsAligned}

-- ---- tests of signed numbers

lt-neg-neg : (a b : ℕ) → int_lt (neg_ℤ (pos a)) (neg_ℤ (pos b)) ≡ ltb b a
lt-neg-neg zero zero = refl
lt-neg-neg zero (suc b) = grind (arith, nat_tests)
lt-neg-neg (suc a) zero = grind (arith, nat_tests)
lt-neg-neg (suc a) (suc b) = grind (arith, nat_tests)

lt-neg-pos : (a b : ℕ) → int_lt (neg_ℤ (pos a)) (pos b) ≡ ltb 0 (a + b)
lt-neg-pos zero b = grind (arith, nat_tests)
lt-neg-pos (suc a) b = grind (arith, nat_tests)

pub lt-pos-neg : (a b : ℕ) → int_lt (pos a) (neg_ℤ (pos b)) ≡ false
lt-pos-neg a zero = grind (arith, nat_tests)
lt-pos-neg a (suc b) = refl

-- ---- a common factor

lt-scaled : (m n k : ℕ) → 0 < k → ltb (m * k) (n * k) ≡ ltb m n
lt-scaled m n k h = scaled (ltb m n) refl
  where
    scaled : (t : Bool) → ltb m n ≡ t → ltb (m * k) (n * k) ≡ t
    scaled true e = let lt : m < n = grind (arith, nat_tests) in let below : m * k < n * k = mul-lt-mul_of_pos_right lt h in grind (arith, nat_tests)
    scaled false e = let le : n ≤ m = grind (arith, nat_tests) in let above : n * k ≤ m * k = mul-le-mul_right k le in grind (arith, nat_tests)

-- ---- ten to an exponent

pub gap-add : (low mid high : ℤ) → low ≤ℤ mid → mid ≤ℤ high → int_gap low high ≡ int_gap mid high + int_gap low mid
gap-add (pos a) (pos b) (pos c) h k = omega (arith, ints)
gap-add (pos a) (pos b) (negsuc c) h k = omega (arith, ints)
gap-add (pos a) (negsuc b) (pos c) h k = omega (arith, ints)
gap-add (pos a) (negsuc b) (negsuc c) h k = omega (arith, ints)
gap-add (negsuc a) (pos b) (pos c) h k = omega (arith, ints)
gap-add (negsuc a) (pos b) (negsuc c) h k = omega (arith, ints)
gap-add (negsuc a) (negsuc b) (pos c) h k = omega (arith, ints)
gap-add (negsuc a) (negsuc b) (negsuc c) h k = omega (arith, ints)

units-scaled : (s t : Bool) (m n k : ℕ) → 0 < k → int_lt (signed_number s (m * k)) (signed_number t (n * k)) ≡ int_lt (signed_number s m) (signed_number t n)
units-scaled false false m n k h = lt-scaled m n k h
units-scaled false true m n k h = lt-pos-neg (m * k) (n * k) ∙ sym (lt-pos-neg m n)
units-scaled true false m n k h =
    lt-neg-pos (m * k) (n * k) ∙ ap (λ x. ltb 0 x) (sym (add-mul m n k)) ∙ ap (λ x. ltb x ((m + n) * k)) (sym (zero-mul k))
    ∙ lt-scaled 0 (m + n) k h ∙ sym (lt-neg-pos m n)
units-scaled true true m n k h = lt-neg-neg (m * k) (n * k) ∙ lt-scaled n m k h ∙ sym (lt-neg-neg m n)

cmp-scaled : (s t : Bool) (m n k : ℕ) → 0 < k → int_cmp (signed_number s (m * k)) (signed_number t (n * k)) ≡ int_cmp (signed_number s m) (signed_number t n)
cmp-scaled s t m n k h = rw (units-scaled s t m n k h, units-scaled t s n m k h) refl

-- the units of a lower exponent
in_units-lower : (low mid : ℤ) (v : DecimalValue) → low ≤ℤ mid → mid ≤ℤ v.exponent
    → in_units low v ≡ signed_number v.negative (v.digits * 10 ^ int_gap mid v.exponent * 10 ^ int_gap low mid)
in_units-lower low mid v h k =
    ap (signed_number v.negative)
    (ap (λ g. v.digits * 10 ^ g) (gap-add low mid v.exponent h k) ∙ ap (λ p. v.digits * p) (pow-add 10 (int_gap mid v.exponent) (int_gap low mid))
    ∙ sym (mul_assoc v.digits (10 ^ int_gap mid v.exponent) (10 ^ int_gap low mid)))

-- any exponent that is no greater than both shows the same order
pub cmp-at : (low : ℤ) (a b : DecimalValue) → low ≤ℤ a.exponent → low ≤ℤ b.exponent → decimal_cmp a b ≡ int_cmp (in_units low a) (in_units low b)
unfolding decimal_cmp
cmp-at low a b h k =
    let mid = int_min a.exponent b.exponent in
    let below : low ≤ℤ mid = omega (arith, ints, clamps) in
    let left : mid ≤ℤ a.exponent = omega (arith, ints, clamps) in
    let right : mid ≤ℤ b.exponent = omega (arith, ints, clamps) in
    sym (rw (in_units-lower low mid a below left, in_units-lower low mid b below right)
    (cmp-scaled a.negative b.negative _ _ (10 ^ int_gap low mid) (one-le-pow (int_gap low mid) 10 (omega arith))))

-- ---- the order is total

units_total : (low : ℤ) → IsTotalOrder (on (in_units low) int_cmp)
units_total low = on_total (in_units low) int_cmp_total

pub decimal_cmp_total : IsTotalOrder decimal_cmp
decimal_cmp_total = record {
  antisymm = λ a b.
      let low = int_min a.exponent b.exponent in
      let left : low ≤ℤ a.exponent = omega (arith, ints, clamps) in
      let right : low ≤ℤ b.exponent = omega (arith, ints, clamps) in
      cmp-at low a b left right ∙ (units_total low).antisymm a b ∙ ap ordering_reverse (sym (cmp-at low b a right left));
  trans = λ a b c p q.
      let low = int_min (int_min a.exponent b.exponent) c.exponent in
      let first : low ≤ℤ a.exponent = omega (arith, ints, clamps) in
      let second : low ≤ℤ b.exponent = omega (arith, ints, clamps) in
      let third : low ≤ℤ c.exponent = omega (arith, ints, clamps) in
      cmp-at low a c first third ∙ (units_total low).trans a b c (sym (cmp-at low a b first second) ∙ p) (sym (cmp-at low b c second third) ∙ q);
  congr = λ a b c p.
      let low = int_min (int_min a.exponent b.exponent) c.exponent in
      let first : low ≤ℤ a.exponent = omega (arith, ints, clamps) in
      let second : low ≤ℤ b.exponent = omega (arith, ints, clamps) in
      let third : low ≤ℤ c.exponent = omega (arith, ints, clamps) in
      cmp-at low a c first third ∙ (units_total low).congr a b c (sym (cmp-at low a b first second) ∙ p) ∙ sym (cmp-at low b c second third);
}

-- ---- aligned digits

gap-over : (e : ℤ) (n : ℕ) → int_gap e (e +ℤ pos n) ≡ n
gap-over (pos a) n = omega (arith, ints)
gap-over (negsuc a) n = gap-over-neg a n ((negsuc a) +ℤ pos n) refl
  where
    gap-over-neg : (a n : ℕ) (z : ℤ) → (negsuc a) +ℤ pos n ≡ z → int_gap (negsuc a) z ≡ n
    gap-over-neg a n (pos b) e = omega (arith, ints)
    gap-over-neg a n (negsuc b) e = omega (arith, ints)

-- in units of the last of its 38 digits an aligned decimal is these digits
in_units-aligned : (negative : Bool) (leading padding : ℕ) (low last : ℤ) → low ≤ℤ last → leading / 10 ^ padding * 10 ^ padding ≡ leading
    → in_units low (aligned_value negative leading padding last) ≡ signed_number negative (leading * 10 ^ int_gap low last)
in_units-aligned negative leading padding low last h padded =
    let up : last ≤ℤ (last +ℤ pos padding) = omega (arith, ints) in
    let gap : int_gap last (last +ℤ pos padding) ≡ padding = gap-over last padding in
    in_units-lower low last (aligned_value negative leading padding last) h up
    ∙ ap (λ g. signed_number negative (leading / 10 ^ padding * 10 ^ g * 10 ^ int_gap low last)) gap
    ∙ ap (λ l. signed_number negative (l * 10 ^ int_gap low last)) padded

cmp-pos : (m n : ℕ) → int_cmp (pos m) (pos n) ≡ nat_cmp m n
cmp-pos m n = grind (arith, nat_tests)

-- two sizes in units of the lesser last exponent
cmp-units : (m y n z : ℕ) (e f : ℤ) → m / 10 ^ y * 10 ^ y ≡ m → n / 10 ^ z * 10 ^ z ≡ n
    → decimal_cmp (aligned_value false m y e) (aligned_value false n z f) ≡ nat_cmp (m * 10 ^ int_gap (int_min e f) e) (n * 10 ^ int_gap (int_min e f) f)
cmp-units m y n z e f p q =
    let low = int_min e f in
    let left : low ≤ℤ e = omega (arith, ints, clamps) in
    let right : low ≤ℤ f = omega (arith, ints, clamps) in
    cmp-at low (aligned_value false m y e) (aligned_value false n z f) (omega (arith, ints, clamps)) (omega (arith, ints, clamps))
    ∙ ap (λ u. int_cmp u (in_units low (aligned_value false n z f))) (in_units-aligned false m y low e left p)
    ∙ ap (λ u. int_cmp (pos (m * 10 ^ int_gap low e)) u) (in_units-aligned false n z low f right q)
    ∙ cmp-pos (m * 10 ^ int_gap low e) (n * 10 ^ int_gap low f)

nat_cmp-scaled : (m n k : ℕ) → 0 < k → nat_cmp (m * k) (n * k) ≡ nat_cmp m n
nat_cmp-scaled m n k h = sym (cmp-pos (m * k) (n * k)) ∙ cmp-scaled false false m n k h ∙ cmp-pos m n

some_power : (g : ℕ) → 0 < 10 ^ g
some_power g = one-le-pow g 10 (omega arith)

-- where one of them is 0
pub cmp-with_zero : (m y n z : ℕ) (e f : ℤ) → m / 10 ^ y * 10 ^ y ≡ m → n / 10 ^ z * 10 ^ z ≡ n → (m ≡ 0) ⊎ (n ≡ 0)
    → nat_cmp m n ≡ decimal_cmp (aligned_value false m y e) (aligned_value false n z f)
cmp-with_zero m y n z e f p q (inl h) =
    let g = int_gap (int_min e f) e in
    let k = int_gap (int_min e f) f in
    let same : m * 10 ^ g ≡ m * 10 ^ k = ap (λ x. x * 10 ^ g) h ∙ zero-mul (10 ^ g) ∙ sym (zero-mul (10 ^ k)) ∙ ap (λ x. x * 10 ^ k) (sym h) in
    sym (cmp-units m y n z e f p q ∙ ap (λ x. nat_cmp x (n * 10 ^ k)) same ∙ nat_cmp-scaled m n (10 ^ k) (some_power k))
cmp-with_zero m y n z e f p q (inr h) =
    let g = int_gap (int_min e f) e in
    let k = int_gap (int_min e f) f in
    let same : n * 10 ^ k ≡ n * 10 ^ g = ap (λ x. x * 10 ^ k) h ∙ zero-mul (10 ^ k) ∙ sym (zero-mul (10 ^ g)) ∙ ap (λ x. x * 10 ^ g) (sym h) in
    sym (cmp-units m y n z e f p q ∙ ap (λ x. nat_cmp (m * 10 ^ g) x) same ∙ nat_cmp-scaled m n (10 ^ g) (some_power g))

-- the one whose last digit counts more is greater
below_shifted : (m n g k : ℕ) → m < 10 ^ 38 → 10 ^ 37 ≤ n → g ≡ 0 → 1 ≤ k → m * 10 ^ g < n * 10 ^ k
below_shifted m n g k h l e some =
    let up : 10 ^ 1 ≤ 10 ^ k = pow-le-pow_right (omega arith) some in
    let more : n * 10 ^ 1 ≤ n * 10 ^ k = mul-le-mul_left n up in
    let one : m * 10 ^ g ≡ m * 10 ^ 0 = ap (λ x. m * 10 ^ x) e in
    omega (arith, more, one)

gap-zero : (e : ℤ) → int_gap e e ≡ 0
gap-zero (pos a) = omega arith
gap-zero (negsuc a) = omega arith

pub gap-some : (e f : ℤ) → e <ℤ f → 1 ≤ int_gap e f
gap-some (pos a) (pos b) h = omega (arith, ints)
gap-some (pos a) (negsuc b) h = omega (arith, ints)
gap-some (negsuc a) (pos b) h = omega (arith, ints)
gap-some (negsuc a) (negsuc b) h = omega (arith, ints)

min-left : (e f : ℤ) → e ≤ℤ f → int_min e f ≡ e
min-left e f h = omega (arith, ints, clamps)

min-right : (e f : ℤ) → f ≤ℤ e → int_min e f ≡ f
min-right e f h = omega (arith, ints, clamps)

-- where none of them is 0
pub cmp-sizes : (m y n z : ℕ) (e f : ℤ) → m / 10 ^ y * 10 ^ y ≡ m → n / 10 ^ z * 10 ^ z ≡ n → m < 10 ^ 38 → n < 10 ^ 38 → 10 ^ 37 ≤ m → 10 ^ 37 ≤ n
    → ordering_then (int_cmp e f) (nat_cmp m n) ≡ decimal_cmp (aligned_value false m y e) (aligned_value false n z f)
cmp-sizes m y n z e f p q hm hn lm ln = sym (cmp-units m y n z e f p q ∙ by (int_cmp e f) (int_ranks e f))
  where
    by : (r : Ordering) → MatchOrdering r (e <ℤ f) (e ≡ f) (f <ℤ e)
        → nat_cmp (m * 10 ^ int_gap (int_min e f) e) (n * 10 ^ int_gap (int_min e f) f) ≡ ordering_then r (nat_cmp m n)
    by Less h =
        let low = min-left e f (omega (arith, ints)) in
        sym (nat_cmp_is _ _ Less
        (below_shifted m n _ _ hm ln (ap (λ l. int_gap l e) low ∙ gap-zero e) (subst (λ l. 1 ≤ int_gap l f) (sym low) (gap-some e f h))))
    by Equal h =
        let same : int_gap (int_min e f) e ≡ int_gap (int_min e f) f = ap (int_gap (int_min e f)) h in
        ap (λ g. nat_cmp (m * 10 ^ g) (n * 10 ^ int_gap (int_min e f) f)) same ∙ nat_cmp-scaled m n _ (some_power (int_gap (int_min e f) f))
    by Greater h =
        let low = min-right e f (omega (arith, ints)) in
        sym (nat_cmp_is _ _ Greater
        (below_shifted n m _ _ hn lm (ap (λ l. int_gap l f) low ∙ gap-zero f) (subst (λ l. 1 ≤ int_gap l e) (sym low) (gap-some f e h))))

-- ---- signs

pub cmp-neg-neg : (m n : ℕ) → int_cmp (neg_ℤ (pos m)) (neg_ℤ (pos n)) ≡ int_cmp (pos n) (pos m)
cmp-neg-neg m n = rw (lt-neg-neg m n, lt-neg-neg n m) refl

pub cmp-negatives : (a b : DecimalValue) → a.negative ≡ true → b.negative ≡ true → decimal_cmp (magnitude_of b) (magnitude_of a) ≡ decimal_cmp a b
cmp-negatives a b p q =
    let low = int_min a.exponent b.exponent in
    let left : low ≤ℤ a.exponent = omega (arith, ints, clamps) in
    let right : low ≤ℤ b.exponent = omega (arith, ints, clamps) in
    let units = λ (v : DecimalValue). v.digits * 10 ^ int_gap low v.exponent in
    cmp-at low (magnitude_of b) (magnitude_of a) right left
    ∙ sym (cmp-at low a b left right ∙ ap (λ s. int_cmp (signed_number s (units a)) (in_units low b)) p
    ∙ ap (λ s. int_cmp (neg_ℤ (pos (units a))) (signed_number s (units b))) q ∙ cmp-neg-neg (units a) (units b))

pub cmp-negative_first : (a b : DecimalValue) → a.negative ≡ true → b.negative ≡ false → 0 < a.digits → decimal_cmp a b ≡ Less
cmp-negative_first a b p q some =
    let low = int_min a.exponent b.exponent in
    let left : low ≤ℤ a.exponent = omega (arith, ints, clamps) in
    let right : low ≤ℤ b.exponent = omega (arith, ints, clamps) in
    let m = a.digits * 10 ^ int_gap low a.exponent in
    let n = b.digits * 10 ^ int_gap low b.exponent in
    let more : 0 < m = mul-pos some (some_power (int_gap low a.exponent)) in
    let below : ltb 0 (m + n) ≡ true = lt-ltb 0 (m + n) (omega arith) in
    cmp-at low a b left right ∙ ap (λ s. int_cmp (signed_number s m) (in_units low b)) p ∙ ap (λ s. int_cmp (neg_ℤ (pos m)) (signed_number s n)) q
    ∙ ap (λ t. cond t Less (cond (int_lt (pos n) (neg_ℤ (pos m))) Greater Equal)) (lt-neg-pos m n ∙ below)

pub cmp-negative_second : (a b : DecimalValue) → a.negative ≡ false → b.negative ≡ true → 0 < b.digits → decimal_cmp a b ≡ Greater
cmp-negative_second a b p q some = decimal_cmp_total.antisymm a b ∙ ap ordering_reverse (cmp-negative_first b a q p some)

-- a negative decimal isn't 0
pub some_digits : (negative : Bool) (leading padding : ℕ) (last : ℤ) → IsAligned negative leading padding last → negative ≡ true → 0 < leading / 10 ^ padding
some_digits negative leading padding last a e = pos_of_ne-zero (λ none.
    absurd (false≢true (sym (a.zero (sym a.padded ∙ ap (λ d. d * 10 ^ padding) none ∙ zero-mul (10 ^ padding))).0 ∙ e)))
