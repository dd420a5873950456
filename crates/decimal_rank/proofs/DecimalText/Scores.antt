-- The decimal that is made of a text's parts.
use Rattle.std.proofs.Common.{◌≡◌, ◌≢◌, ℕ, ◌+◌, ◌-◌, ◌*◌, ◌/◌, ◌%◌, ◌^◌, ◌<◌, ◌≤◌, Bool, true, false, cond, eqb, List, ◌++◌, length, refl, arith, ap, sym, ◌∙◌, subst, ℤ, pos, negsuc, ◌+ℤ◌, ◌-ℤ◌, ◌≤ℤ◌, length-append, pos_of_ne-zero, to_z, of_z, w16}
use Rattle.std.proofs.Math.Nat.{one-le-pow, mul-div_cancel}
use Rattle.std.specs.Prelude.{min}
use Rattle.std.specs.List.{list_all}
use Rattle.std.specs.Str.Parse.{digits_value, signed_digits_value, starts_with_minus}
use Rattle.std.proofs.lemmas.Bool.Decides.{nat_tests}
use Rattle.std.proofs.lemmas.Int.{ints}
use Rattle.std.proofs.lemmas.List.{nil_from_length}
use Rattle.decimal_rank.specs.Decimals.Decimal.{DecimalValue}
use Rattle.decimal_rank.specs.Decimals.DecimalText.{is_digit, whole_part, fraction_part, written_exponent, mantissa_digits, significant, scaled_value, decimal_value, zeros_after}
use Rattle.decimal_rank.specs.Decimals.Significands.{IsSignificand, ArePartsOf}
use Rattle.decimal_rank.specs.declared.decimals.score_parts.Parts.{Parts}
use Rattle.decimal_rank.specs.declared.decimals.significands.Significand.{Significand}
use Rattle.decimal_rank.proofs.DecimalText.ReadDigits.{sized, is_kept, is_trimmed, some_counted, same_zeros, zeros_within, count_within}
use Rattle.decimal_rank.proofs.DecimalText.ScoreTexts.{IsShaped}

pub of_parts : (text : List ℕ) (parts : Parts) (s : Significand) → ArePartsOf text parts
    → IsSignificand (parts.whole.now ++ parts.fraction.now) s → IsSignificand (mantissa_digits text) s
of_parts text parts s p was =
    let same : parts.whole.now ++ parts.fraction.now ≡ mantissa_digits text =
    ap (λ l. l ++ parts.fraction.now) p.whole ∙ ap (λ l. whole_part text ++ l) p.fraction in
    subst (λ digits. IsSignificand digits s) same was

pub few_zeros : (text : List ℕ) (s : Significand) → IsShaped text → IsSignificand (mantissa_digits text) s → s.zeros ≤ 400
few_zeros text s shaped was =
    let within = zeros_within (mantissa_digits text) s was in
    let counted = count_within (mantissa_digits text) s was in
    let long = length-append (whole_part text) (fraction_part text) in
    let few = shaped.few in
    omega (arith, within, counted, long, few)

-- the number without the zeros that are kept
pub quotient : (digits : List ℕ) (s : Significand) (kept : ℕ) → IsSignificand digits s → kept + (s.count - s.zeros) ≡ min s.count 38
    → s.number / 10 ^ kept ≡ digits_value 10 (significant digits)
quotient digits s kept was is =
    ap (λ n. n / 10 ^ kept) (is_kept digits s kept was is) ∙ mul-div_cancel (digits_value 10 (significant digits)) (one-le-pow kept 10 (omega arith))

pub whole_again : (digits : List ℕ) (s : Significand) (kept : ℕ) → IsSignificand digits s
    → kept + (s.count - s.zeros) ≡ min s.count 38 → s.number / 10 ^ kept * 10 ^ kept ≡ s.number
whole_again digits s kept was is = ap (λ n. n * 10 ^ kept) (quotient digits s kept was is) ∙ sym (is_kept digits s kept was is)

pub quotient_trimmed : (digits : List ℕ) (s : Significand) (kept : ℕ) → IsSignificand digits s
    → list_all is_digit digits ≡ true → kept + (s.count - s.zeros) ≡ min s.count 38
    → s.number ≢ 0 → s.number / 10 ^ kept % 10 ≢ 0
quotient_trimmed digits s kept was all is some e =
    is_trimmed digits s was all (some_counted digits s was some) (ap (λ n. n % 10) (sym (quotient digits s kept was is)) ∙ e)

-- zero has neither sign nor exponent
pub scaled_as : (n : Bool) (d : ℕ) (e : ℤ) → d ≡ 0 → scaled_value n d e ≡ record { negative = false; digits = 0; exponent = pos 0 }
scaled_as n d e none =
    let other : DecimalValue = record { negative = n; digits = d; exponent = e } in
    let nil : DecimalValue = record { negative = false; digits = 0; exponent = pos 0 } in
    let is : eqb d 0 ≡ true = grind (arith, nat_tests) in
    ap (λ t. cond t nil other) is

pub scaled_some : (n : Bool) (d : ℕ) (e : ℤ) → d ≢ 0 → scaled_value n d e ≡ record { negative = n; digits = d; exponent = e }
scaled_some n d e some =
    let other : DecimalValue = record { negative = n; digits = d; exponent = e } in
    let nil : DecimalValue = record { negative = false; digits = 0; exponent = pos 0 } in
    let is : eqb d 0 ≡ false = grind (arith, nat_tests) in
    ap (λ t. cond t nil other) is

scaled_zero : (n m : Bool) (d : ℕ) (e f : ℤ) → d ≡ 0 → scaled_value n d e ≡ scaled_value m d f
scaled_zero n m d e f none = scaled_as n d e none ∙ sym (scaled_as m d f none)

pub value_made : (text : List ℕ) (parts : Parts) (s : Significand) (kept : ℕ) (written exponent : ℤ) (result : DecimalValue)
    → ArePartsOf text parts → IsSignificand (mantissa_digits text) s
    → kept + (s.count - s.zeros) ≡ min s.count 38 → written ≡ signed_digits_value 10 parts.exponent.now
    → exponent ≡ (written +ℤ pos s.zeros) -ℤ pos (length parts.fraction.now)
    → result ≡ scaled_value parts.negative (s.number / 10 ^ kept) exponent → result ≡ decimal_value text
value_made text parts s kept written exponent result p was kept_is written_is exponent_is is =
    is ∙ ap (λ d. scaled_value parts.negative d exponent) (quotient digits s kept was kept_is) ∙ by (eqb value 0) refl
  where
    digits : List ℕ
    digits = mantissa_digits text

    value : ℕ
    value = digits_value 10 (significant digits)

    by : (t : Bool) → eqb value 0 ≡ t → scaled_value parts.negative value exponent ≡ decimal_value text
    by true e = let none : value ≡ 0 = grind (arith, nat_tests) in scaled_zero parts.negative (starts_with_minus text) value exponent _ none
    by false e =
        let some : value ≢ 0 = grind (arith, nat_tests) in
        let counted : 0 < s.count =
        pos_of_ne-zero (λ none. some (ap (digits_value 10) (nil_from_length (significant digits) (sized digits s was ∙ omega (arith, none))))) in
        let same : exponent ≡ (signed_digits_value 10 (written_exponent text) +ℤ pos (zeros_after digits)) -ℤ pos (length (fraction_part text)) =
        exponent_is ∙ ap (λ w. (w +ℤ pos s.zeros) -ℤ pos (length parts.fraction.now)) (written_is ∙ ap (signed_digits_value 10) p.exponent)
        ∙ ap (λ z. (signed_digits_value 10 (written_exponent text) +ℤ pos z) -ℤ pos (length parts.fraction.now)) (same_zeros digits s was counted)
        ∙ ap (λ f. (signed_digits_value 10 (written_exponent text) +ℤ pos (zeros_after digits)) -ℤ pos (length f)) p.fraction in
        ap (λ n. scaled_value n value exponent) p.negative ∙ ap (scaled_value (starts_with_minus text) value) same

-- a small exponent is kept in 16 bits
pub unwrapped : (exponent : ℤ) → negsuc 999 ≤ℤ exponent → exponent ≤ℤ pos 1000 → to_z w16 (of_z w16 exponent) ≡ exponent
unwrapped exponent low high = omega (arith, ints)

pub unwrapped_near : (exponent z : ℤ) → exponent ≡ z → (negsuc 399 ≤ℤ z) × (z ≤ℤ pos 400) → to_z w16 (of_z w16 exponent) ≡ exponent
unwrapped_near exponent z is near =
    let low : negsuc 999 ≤ℤ exponent = omega (arith, ints, near.0) in
    let high : exponent ≤ℤ pos 1000 = omega (arith, ints, near.1) in
    unwrapped exponent low high
