-- The number that digits write.
use Rattle.std.proofs.Common.{◌≡◌, ◌≢◌, ℕ, zero, suc, ◌+◌, ◌-◌, ◌*◌, ◌%◌, ◌^◌, ◌<◌, ◌≤◌, true, false, List, length, take, reverse, get_or, arith, ap, sym, ◌∙◌, pow-add, leb-true, mul_assoc}
use Rattle.std.specs.Prelude.{min}
use Rattle.std.specs.List.{list_all}
use Rattle.std.specs.Int.{IsInRange}
use Rattle.std.specs.Char.{digit_value}
use Rattle.std.specs.Str.Parse.{digits_value}
use Rattle.std.proofs.lemmas.Bool.{and_parts, true_from_ne_false}
use Rattle.std.proofs.lemmas.Bool.Decides.{nat_tests}
use Rattle.std.proofs.lemmas.Int.Digits.{digits_value_more}
use Rattle.std.proofs.lemmas.List.Folds.{list_all_at}
use Rattle.std.proofs.lemmas.List.Sums.{prefix_len_passes, prefix_len_stops}
use Rattle.std.proofs.lemmas.List.{length-reverse, get_or-reverse}
use Rattle.std.proofs.lemmas.Str.{digit_value_digit}
use Rattle.decimal_rank.specs.Decimals.DecimalText.{is_digit, is_zero, zeros_after}

pub digit_range : (b : ℕ) → is_digit b ≡ true → IsInRange 48 57 b
digit_range b is = let p = and_parts _ _ is in (leb-true _ _ p.0, leb-true _ _ p.1)

-- a digit at a place
pub digit_at : (digits : List ℕ) (i : ℕ) → list_all is_digit digits ≡ true → i < length digits → is_digit (get_or digits i 0) ≡ true
digit_at digits i all inside = true_from_ne_false (is_digit (get_or digits i 0)) (λ other. let wrong = list_all_at is_digit digits i 0 inside other in cc)

-- the capped value with one more digit
pub capped_more : (digits : List ℕ) (i value next cap : ℕ) → list_all is_digit digits ≡ true → i < length digits
    → cap < 2 ^ 64 → value ≡ min (digits_value 10 (take i digits)) cap
    → next ≡ min (min (min (value * 10) (2 ^ 64 - 1) + (get_or digits i 0 - 48)) (2 ^ 64 - 1)) cap → next ≡ min (digits_value 10 (take (i + 1) digits)) cap
capped_more digits i value next cap all inside fits was is =
    omega (
      arith,
      fits,
      was,
      is,
      digits_value_more 10 digits i inside,
      digit_value_digit (get_or digits i 0) (digit_range (get_or digits i 0) (digit_at digits i all inside)),
    )

-- ---- zeros at the end

-- so many at the end are zeros
pub zero_at_end : (digits : List ℕ) (i : ℕ) → length digits - zeros_after digits ≤ i → i < length digits → get_or digits i 0 ≡ 48
zero_at_end digits i from inside =
    let k = length digits - 1 - i in
    let within : k < length digits = omega arith in
    let few : k < zeros_after digits = omega arith in
    let back : length digits - 1 - k ≡ i = omega arith in
    let passes : is_zero (get_or (reverse digits) k 0) ≡ true = prefix_len_passes is_zero (reverse digits) k 0 few in
    let same : get_or (reverse digits) k 0 ≡ get_or digits i 0 = get_or-reverse digits k 0 within ∙ ap (λ j. get_or digits j 0) back in
    let zero : is_zero (get_or digits i 0) ≡ true = ap is_zero (sym same) ∙ passes in
    grind (arith, nat_tests)

-- the digit before them isn't one
pub other_before_end : (digits : List ℕ) → zeros_after digits < length digits → get_or digits (length digits - 1 - zeros_after digits) 0 ≢ 48
other_before_end digits few is =
    let long : length (reverse digits) ≡ length digits = length-reverse digits in
    let stops : is_zero (get_or (reverse digits) (zeros_after digits) 0) ≡ false = prefix_len_stops is_zero (reverse digits) 0 (omega arith) in
    let same : get_or (reverse digits) (zeros_after digits) 0 ≡ get_or digits (length digits - 1 - zeros_after digits) 0 =
    get_or-reverse digits (zeros_after digits) 0 few in
    let zero : is_zero (get_or (reverse digits) (zeros_after digits) 0) ≡ true = ap is_zero (same ∙ is) in
    cc

-- each zero at the end that is kept multiplies by ten
pub value-kept : (digits : List ℕ) (kept : ℕ) → length digits - zeros_after digits + kept ≤ length digits
    → digits_value 10 (take (length digits - zeros_after digits + kept) digits) ≡ digits_value 10 (take (length digits - zeros_after digits) digits) * 10 ^ kept
value-kept digits zero le =
    let same : length digits - zeros_after digits + 0 ≡ length digits - zeros_after digits = omega arith in
    ap (λ n. digits_value 10 (take n digits)) same ∙ omega arith
value-kept digits (suc kept) le =
    let n = length digits - zeros_after digits in
    let inside : n + kept < length digits = omega arith in
    let before = value-kept digits kept (omega arith) in
    let more = digits_value_more 10 digits (n + kept) inside in
    let zero = zero_at_end digits (n + kept) (omega arith) inside in
    let none : digit_value (get_or digits (n + kept) 0) ≡ 0 = ap digit_value zero in
    let up : 10 ^ (kept + 1) ≡ 10 ^ kept * 10 = pow-add 10 kept 1 in
    let next : n + suc kept ≡ n + kept + 1 = omega arith in
    let one : suc kept ≡ kept + 1 = omega arith in
    let value = digits_value 10 (take n digits) in
    let pushed : digits_value 10 (take (n + kept + 1) digits) ≡ digits_value 10 (take (n + kept) digits) * 10 = omega (arith, more, none) in
    ap (λ m. digits_value 10 (take m digits)) next ∙ pushed ∙ ap (λ m. m * 10) before ∙ mul_assoc value (10 ^ kept) 10
    ∙ ap (λ p. value * p) (sym up) ∙ ap (λ m. value * 10 ^ m) (sym one)

-- the number without the zeros at the end doesn't end with 0
pub trimmed : (digits : List ℕ) → list_all is_digit digits ≡ true → zeros_after digits < length digits
    → digits_value 10 (take (length digits - zeros_after digits) digits) % 10 ≢ 0
trimmed digits all few =
    let i = length digits - 1 - zeros_after digits in
    let inside : i < length digits = omega arith in
    let range = digit_range (get_or digits i 0) (digit_at digits i all inside) in
    let value = digit_value_digit (get_or digits i 0) range in
    let other = other_before_end digits few in
    let more = digits_value_more 10 digits i inside in
    let at : i + 1 ≡ length digits - zeros_after digits = omega arith in
    let is : digits_value 10 (take (length digits - zeros_after digits) digits) ≡ digits_value 10 (take i digits) * 10 + digit_value (get_or digits i 0) =
    ap (λ n. digits_value 10 (take n digits)) (sym at) ∙ more in
    omega (arith, is, range.0, range.1, value, other)
