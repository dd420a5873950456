-- What a score's text stands for, by its parts.
use Rattle.std.proofs.Common.{◌≡◌, ℕ, ◌+◌, ◌<◌, ◌≤◌, Bool, true, false, cond, not, ltb, leb, ◌&&◌, ◌||◌, eqb, List, length, take, drop, get_or, refl, arith, ap, sym, ◌∙◌, Ok, Err, ℤ, pos, negsuc, neg_ℤ, ◌≤ℤ◌, leb-true, length-drop, length-take}
use Rattle.std.specs.List.{list_all, position_or_len}
use Rattle.std.specs.Str.Parse.{digits_value, signed_digits_value, starts_with_minus, without_leading_sign}
use Rattle.std.proofs.lemmas.Bool.{and_parts}
use Rattle.std.proofs.lemmas.Int.{ints}
use Rattle.std.proofs.lemmas.List.Folds.{list_all-append}
use borrow.Author.Tests.{lt-ltb, le-ltb}
use Rattle.decimal_rank.specs.Decimals.DecimalText.{is_digit, is_point, is_exponent_mark, mantissa, written_exponent, has_exponent, whole_part, fraction_part, mantissa_digits, are_digits, is_decimal, significant, decimal_value, decimal_of}
use Rattle.decimal_rank.specs.declared.decimals.DecimalFault.TheVariants.{Shape, Digits, Exponent}
use Rattle.decimal_rank.proofs.DecimalText.Cuts.{none_behind}

-- ---- the answer

pub decimal_of_cases : (text : List ℕ) (s d e : Bool) → is_decimal text ≡ s → ltb 38 (length (significant (mantissa_digits text))) ≡ d
    → ltb 400 (digits_value 10 (without_leading_sign (written_exponent text))) ≡ e
    → decimal_of text ≡ cond (not s) (Err Shape) (cond d (Err Digits) (cond e (Err Exponent) (Ok (decimal_value text))))
unfolding decimal_of
decimal_of_cases text s d e p q r =
    ap (λ t. cond (not t) (Err Shape)
    (cond (ltb 38 (length (significant (mantissa_digits text)))) (Err Digits)
    (cond (ltb 400 (digits_value 10 (without_leading_sign (written_exponent text)))) (Err Exponent) (Ok (decimal_value text))))) p
    ∙ ap (λ t. cond (not s) (Err Shape)
    (cond t (Err Digits) (cond (ltb 400 (digits_value 10 (without_leading_sign (written_exponent text)))) (Err Exponent) (Ok (decimal_value text))))) q
    ∙ ap (λ t. cond (not s) (Err Shape) (cond d (Err Digits) (cond t (Err Exponent) (Ok (decimal_value text))))) r

pub other_shape : (text : List ℕ) → is_decimal text ≡ false → Err Shape ≡ decimal_of text
other_shape text p = sym (decimal_of_cases text false _ _ p refl refl)

pub many_digits : (text : List ℕ) → is_decimal text ≡ true → 38 < length (significant (mantissa_digits text)) → Err Digits ≡ decimal_of text
many_digits text p q = sym (decimal_of_cases text true true _ p (lt-ltb _ _ q) refl)

pub far_exponent : (text : List ℕ) → is_decimal text ≡ true → length (significant (mantissa_digits text)) ≤ 38
    → 400 < digits_value 10 (without_leading_sign (written_exponent text)) → Err Exponent ≡ decimal_of text
far_exponent text p q r = sym (decimal_of_cases text true false true p (le-ltb _ _ q) (lt-ltb _ _ r))

pub has_value : (text : List ℕ) → is_decimal text ≡ true → length (significant (mantissa_digits text)) ≤ 38
    → digits_value 10 (without_leading_sign (written_exponent text)) ≤ 400 → Ok (decimal_value text) ≡ decimal_of text
has_value text p q r = sym (decimal_of_cases text true false false p (le-ltb _ _ q) (le-ltb _ _ r))

-- ---- the shape

pub record IsShaped (text : List ℕ) : Type 0 where
  pub whole : list_all is_digit (whole_part text) ≡ true
  pub fraction : list_all is_digit (fraction_part text) ≡ true
  pub digits : list_all is_digit (mantissa_digits text) ≡ true
  pub exponent : list_all is_digit (without_leading_sign (written_exponent text)) ≡ true
  pub few : length (whole_part text) + length (fraction_part text) ≤ 400

sign-le : (t : Bool) (m n : ℕ) (text : List ℕ) → length (cond t (drop m text) (drop n text)) ≤ length text
sign-le true m n text = omega (arith, length-drop m text)
sign-le false m n text = omega (arith, length-drop n text)

cut-le : (n : ℕ) (xs : List ℕ) → length (take n xs) + length (drop (n + 1) xs) ≤ length xs
cut-le n xs = omega (arith, length-take n xs, length-drop (n + 1) xs)

exponent_digits : (text : List ℕ) (t : Bool) → has_exponent text ≡ t → (not t || are_digits (without_leading_sign (written_exponent text))) ≡ true
    → list_all is_digit (without_leading_sign (written_exponent text)) ≡ true
exponent_digits text true e h = (and_parts _ _ h).1
exponent_digits text false e h = ap (λ part. list_all is_digit (without_leading_sign part)) (none_behind is_exponent_mark (without_leading_sign text) e)

pub is_shaped : (text : List ℕ) → is_decimal text ≡ true → IsShaped text
is_shaped text is =
    let parts = and_parts (leb (length text) 400 && are_digits (mantissa_digits text))
    (not (has_exponent text) || are_digits (without_leading_sign (written_exponent text))) is in
    let front = and_parts (leb (length text) 400) (are_digits (mantissa_digits text)) parts.0 in
    let digits = (and_parts (ltb 0 (length (mantissa_digits text))) (list_all is_digit (mantissa_digits text)) front.1).1 in
    let both = and_parts (list_all is_digit (whole_part text)) (list_all is_digit (fraction_part text))
    (sym (list_all-append is_digit (whole_part text) (fraction_part text)) ∙ digits) in
    let short : length text ≤ 400 = leb-true _ _ front.0 in
    let unsigned : length (without_leading_sign text) ≤ length text = sign-le (starts_with_minus text) 1 (cond (eqb (get_or text 0 0) 43) 1 0) text in
    let front_le : length (mantissa text) ≤ length (without_leading_sign text) =
    omega (arith, length-take (position_or_len is_exponent_mark (without_leading_sign text)) (without_leading_sign text)) in
    let cut = cut-le (position_or_len is_point (mantissa text)) (mantissa text) in
    record {
      whole = both.0;
      fraction = both.1;
      digits = digits;
      exponent = exponent_digits text (has_exponent text) refl parts.1;
      few = omega (arith, short, unsigned, front_le, cut);
    }

-- an exponent of a small size
pub exponent_near : (written : List ℕ) → digits_value 10 (without_leading_sign written) ≤ 400
    → (negsuc 399 ≤ℤ signed_digits_value 10 written) × (signed_digits_value 10 written ≤ℤ pos 400)
exponent_near written few = by (starts_with_minus written)
  where
    by : (t : Bool) → (let z : ℤ =
        cond t (neg_ℤ (pos (digits_value 10 (without_leading_sign written)))) (pos (digits_value 10 (without_leading_sign written))) in (negsuc 399 ≤ℤ z)
        × (z ≤ℤ pos 400))
    by true = (omega (arith, ints, few), omega (arith, ints, few))
    by false = (omega (arith, ints, few), omega (arith, ints, few))
