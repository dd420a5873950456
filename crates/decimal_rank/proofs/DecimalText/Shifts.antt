-- Digits that are moved to the left by padding behind them.
use Rattle.std.proofs.Common.{◌≡◌, ◌≢◌, ℕ, zero, suc, ◌+◌, ◌-◌, ◌*◌, ◌/◌, ◌%◌, ◌^◌, ◌<◌, ◌≤◌, ℤ, pos, negsuc, ◌≤ℤ◌, ◌+ℤ◌, Bool, arith, refl, lt_of_not-le, pos_of_ne-zero, zero-mul, ap, sym, ◌∙◌, mul_assoc, mul-le-mul_right, pow-add, subst}
use Rattle.std.proofs.Math.Nat.{pow-le-pow_right, one-le-pow, mul-div_cancel, mul-lt-mul_of_pos_right}
use Rattle.decimal_rank.specs.Decimals.AlignedDigits.{IsAligned, aligned_value}

pub record IsShifted (digits leading padding : ℕ) : Type 0 where
  pub is : leading ≡ digits * 10 ^ padding
  pub from_one : 0 < digits
  pub below : leading < 10 ^ 38

-- so many digits are moved to the front of 38
pub fits_38 : (digits count : ℕ) → count ≤ 38 → digits < 10 ^ count → digits * 10 ^ (38 - count) < 10 ^ 38
fits_38 digits count few below =
    let whole : 10 ^ count * 10 ^ (38 - count) ≡ 10 ^ 38 =
    sym (pow-add 10 count (38 - count)) ∙ (let all : count + (38 - count) ≡ 38 = omega arith in ap (λ n. 10 ^ n) all) in
    let less : digits * 10 ^ (38 - count) < 10 ^ count * 10 ^ (38 - count) = mul-lt-mul_of_pos_right below (one-le-pow (38 - count) 10 (omega arith)) in
    omega (arith, whole, less)

pub fills_38 : (digits count : ℕ) → count ≤ 38 → 0 < count → 10 ^ (count - 1) ≤ digits → 10 ^ 37 ≤ digits * 10 ^ (38 - count)
fills_38 digits count few some full =
    let whole : 10 ^ (count - 1) * 10 ^ (38 - count) ≡ 10 ^ 37 =
    sym (pow-add 10 (count - 1) (38 - count)) ∙ (let all : count - 1 + (38 - count) ≡ 37 = omega arith in ap (λ n. 10 ^ n) all) in
    let more : 10 ^ (count - 1) * 10 ^ (38 - count) ≤ digits * 10 ^ (38 - count) = mul-le-mul_right (10 ^ (38 - count)) full in
    omega (arith, whole, more)

-- what was moved is at least one
pub shifted_above : (digits leading padding : ℕ) → IsShifted digits leading padding → 10 ^ padding ≤ leading
shifted_above digits leading padding s =
    subst (λ n. 10 ^ padding ≤ n) (sym s.is) (let more : 1 * 10 ^ padding ≤ digits * 10 ^ padding = mul-le-mul_right (10 ^ padding) s.from_one in omega arith)

-- so many padding leave 38 digits
pub few_zeros : (digits leading padding : ℕ) → IsShifted digits leading padding → padding < 38
few_zeros digits leading padding s = lt_of_not-le (λ h.
    let up : 10 ^ 38 ≤ 10 ^ padding = pow-le-pow_right (omega arith) h in
    let above = shifted_above digits leading padding s in
    let below = s.below in
    omega arith)

-- what was moved isn't 0
pub from_one : (digits leading padding : ℕ) → IsShifted digits leading padding → 1 ≤ leading
from_one digits leading padding s =
    let above = shifted_above digits leading padding s in
    let some = one-le-pow padding 10 (omega arith) in
    omega (arith, above, some)

-- the digits come back
pub div-shifted : (digits leading padding : ℕ) → IsShifted digits leading padding → leading / 10 ^ padding ≡ digits
div-shifted digits leading padding s = ap (λ n. n / 10 ^ padding) s.is ∙ mul-div_cancel digits (one-le-pow padding 10 (omega arith))

-- 38 digits are aligned
pub aligned : (negative : Bool) (digits leading padding : ℕ) (last : ℤ) → IsShifted digits leading padding → 10 ^ 37 ≤ leading → digits % 10 ≢ 0
    → negsuc 1999 ≤ℤ last → last ≤ℤ pos 1999 → IsAligned negative leading padding last
aligned negative digits leading padding last s full trimmed low high =
    let back = div-shifted digits leading padding s in
    record {
      below = s.below;
      full = λ _. full;
      padded = ap (λ d. d * 10 ^ padding) back ∙ sym s.is;
      trimmed = λ _ e. trimmed (ap (λ d. d % 10) (sym back) ∙ e);
      short = few_zeros digits leading padding s;
      low = low;
      high = high;
      zero = λ e. absurd (let none : 10 ^ 37 ≤ 0 = subst (λ n. 10 ^ 37 ≤ n) e full in omega arith);
    }

pub value_is : (negative : Bool) (leading padding digits : ℕ) (last exponent : ℤ) → leading / 10 ^ padding ≡ digits → (last +ℤ pos padding) ≡ exponent
    → aligned_value negative leading padding last ≡ record { negative = negative; digits = digits; exponent = exponent }
value_is negative leading padding digits last exponent p q = rw (p, q) refl

-- digits of which some zeros at the end are counted, and zeros behind them
pub shifted : (digits count zeros : ℕ) → digits ≢ 0 → count ≤ 38 → digits < 10 ^ count → digits / 10 ^ zeros * 10 ^ zeros ≡ digits
    → IsShifted (digits / 10 ^ zeros) (digits * 10 ^ (38 - count)) (zeros + (38 - count))
shifted digits count zeros some few below whole = record {
  is = ap (λ n. n * 10 ^ (38 - count)) (sym whole) ∙ mul_assoc (digits / 10 ^ zeros) (10 ^ zeros) (10 ^ (38 - count))
      ∙ ap (λ p. digits / 10 ^ zeros * p) (sym (pow-add 10 zeros (38 - count)));
  from_one = pos_of_ne-zero (λ none. some (sym whole ∙ ap (λ d. d * 10 ^ zeros) none ∙ zero-mul (10 ^ zeros)));
  below = fits_38 digits count few below;
}

pub some_count : (digits count : ℕ) → digits ≢ 0 → digits < 10 ^ count → 0 < count
some_count digits zero some below = absurd (some (omega arith))
some_count digits (suc k) some below = omega arith
