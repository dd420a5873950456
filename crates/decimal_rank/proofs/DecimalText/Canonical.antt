-- Reading a canonical text gives the value again.
use Rattle.std.proofs.Common.{◌≡◌, ◌≢◌, ℕ, suc, ◌+◌, ◌-◌, ◌*◌, ◌/◌, ◌%◌, ◌^◌, ◌<◌, ◌≤◌, Bool, true, false, cond, not, ltb, leb, eqb, ◌&&◌, ◌||◌, List, [], ◌∷◌, ◌++◌, length, take, drop, get_or, refl, arith, ap, sym, ◌∙◌, subst, Result, Ok, ℤ, pos, negsuc, neg_ℤ, nat_abs, ◌+ℤ◌, ◌-ℤ◌, ◌≤ℤ◌, length-append, length-drop, length-take, append-nil, append_assoc, le-leb, pos_of_ne-zero, mul-le-mul_left, zero-mul, Err, IfOk}
use Rattle.std.proofs.Math.Nat.{one-le-pow, zero-div}
use Rattle.std.specs.Prelude.{decimal}
use Rattle.std.specs.Fmt.{signed_decimal}
use Rattle.std.specs.List.{list_all, list_any, before_first, after_first, position_or_len, prefix_len}
use Rattle.std.specs.Str.Parse.{digits_value, signed_digits_value, starts_with_minus, without_leading_sign}
use Rattle.std.proofs.lemmas.Bool.Decides.{nat_tests}
use Rattle.std.proofs.lemmas.Fmt.{decimal_by_steps_wide, length-decimal-le_wide, decimal_digit}
use Rattle.std.proofs.lemmas.Int.{ints}
use Rattle.std.proofs.lemmas.Int.Digits.{digits_value_push}
use Rattle.std.proofs.lemmas.List.{take_all, drop_all, take-append-le}
use Rattle.std.proofs.lemmas.List.Folds.{list_all-append, list_any_none, prefix_len-append}
use Rattle.std.proofs.lemmas.List.Prefix.{front_rest}
use Rattle.std.proofs.lemmas.List.Sums.{position_or_len_is, AllPass-from_list_all}
use Rattle.std.proofs.lemmas.Str.{digit_value_digit}
use borrow.Author.Tests.{lt-ltb}
use Rattle.std.proofs.lemmas.Bool.{and_from}
use Rattle.decimal_rank.specs.Decimals.AlignedDigits.{aligned_value, IsAligned}
use Rattle.decimal_rank.specs.Decimals.Decimal.{DecimalValue}
use Rattle.decimal_rank.specs.Decimals.DecimalText.{is_digit, is_zero, is_point, is_exponent_mark, mantissa, written_exponent, has_exponent, whole_part, fraction_part, mantissa_digits, are_digits, is_decimal, zeros_after, without_leading_zeros, significant, scaled_value, decimal_of, canonical}
use Rattle.decimal_rank.proofs.DecimalText.Digits.{digit_range, digit_at}
use Rattle.decimal_rank.proofs.DecimalText.ReadDigits.{leading-other, zeros_push}
use Rattle.decimal_rank.proofs.DecimalText.Scores.{scaled_as, scaled_some}
use Rattle.decimal_rank.proofs.DecimalText.ScoreTexts.{has_value}

-- ---- the digits of a number

digit_is : (b : ℕ) → 48 ≤ b → b ≤ 57 → is_digit b ≡ true
digit_is b low high = and_from (leb 48 b) (leb b 57) (le-leb _ _ low) (le-leb _ _ high)

pub record IsWritten (n : ℕ) (digits : List ℕ) : Type 0 where
  pub all : list_all is_digit digits ≡ true
  pub some : 0 < length digits
  pub value : digits_value 10 digits ≡ n
  pub first : 0 < n → is_zero (get_or digits 0 0) ≡ false
  pub last : n % 10 ≢ 0 → zeros_after digits ≡ 0

one_digit : (n : ℕ) → n < 10 → IsWritten n ((48 + n) ∷ [])
one_digit n small =
    let is : is_digit (48 + n) ≡ true = digit_is (48 + n) (omega arith) (omega arith) in
    record {
      all = and_from (is_digit (48 + n)) true is refl;
      some = omega arith;
      value = omega (arith, digit_value_digit (48 + n) (digit_range (48 + n) is));
      first = λ some. grind (arith, nat_tests);
      last = λ some. let other : is_zero (48 + n) ≡ false = grind (arith, nat_tests) in ap (λ t. cond t (1 + 0) 0) other;
    }

front_at : (xs ys : List ℕ) → 0 < length xs → get_or (xs ++ ys) 0 0 ≡ get_or xs 0 0
front_at [] ys some = absurd (omega arith)
front_at (x ∷ xs) ys some = refl

one_more : (n : ℕ) (digits : List ℕ) → 10 ≤ n → IsWritten (n / 10) digits → IsWritten n (digits ++ (48 + n % 10) ∷ [])
one_more n digits big was =
    let c = 48 + n % 10 in
    let is : is_digit c ≡ true = digit_is c (omega arith) (omega arith) in
    record {
      all = list_all-append is_digit digits (c ∷ [])
          ∙ and_from (list_all is_digit digits) (list_all is_digit (c ∷ [])) was.all (and_from (is_digit c) true is refl);
      some = omega (arith, length-append digits (c ∷ []));
      value = omega (arith, digits_value_push 10 digits c, digit_value_digit c (digit_range c is), was.value);
      first = λ some. ap is_zero (front_at digits (c ∷ []) was.some) ∙ was.first (omega arith);
      last = λ some. let other : is_zero c ≡ false = grind (arith, nat_tests) in zeros_push digits c ∙ ap (λ t. cond t (1 + zeros_after digits) 0) other;
    }

pub written : (n : ℕ) → n < 10 ^ 64 → IsWritten n (decimal n)
written n small = decimal_by_steps_wide IsWritten one_digit one_more n small

not_led : (digits : List ℕ) → is_zero (get_or digits 0 0) ≡ false → 0 < length digits → without_leading_zeros digits ≡ digits
not_led [] other some = absurd (omega arith)
not_led (x ∷ xs) other some = leading-other x xs other

-- all digits of a number that doesn't end with 0 count
all_significant : (n : ℕ) (digits : List ℕ) → IsWritten n digits → n % 10 ≢ 0 → significant digits ≡ digits
all_significant n digits w some =
    let same = not_led digits (w.first (pos_of_ne-zero (λ none. some (ap (λ m. m % 10) none)))) w.some in
    let last = w.last some in
    ap (λ l. take (length l - zeros_after l) l) same ∙ take_all (length digits - zeros_after digits) digits (omega (arith, last))

significant-le : (digits : List ℕ) → length (significant digits) ≤ length digits
significant-le digits =
    let some = without_leading_zeros digits in
    omega (arith, length-take (length some - zeros_after some) some, length-drop (prefix_len is_zero digits) digits)

-- ---- the parts of a text

-- a test that no digit passes finds none
no_place : (p : ℕ → Bool) (xs : List ℕ) → ((b : ℕ) → is_digit b ≡ true → p b ≡ false) → list_all is_digit xs ≡ true → position_or_len p xs ≡ length xs
no_place p xs fails all =
    position_or_len_is p xs (length xs) 0 (omega arith) (λ k inside. fails (get_or xs k 0) (digit_at xs k all inside)) (λ inside. absurd (omega arith))

no_point : (b : ℕ) → is_digit b ≡ true → is_point b ≡ false
no_point b is = let range = digit_range b is in let low : 48 ≤ b = range.0 in grind (arith, nat_tests)

no_mark : (b : ℕ) → is_digit b ≡ true → is_exponent_mark b ≡ false
no_mark b is =
    let range = digit_range b is in
    let low : 48 ≤ b = range.0 in
    let high : b ≤ 57 = range.1 in
    let small : eqb b 101 ≡ false = grind (arith, nat_tests) in
    let large : eqb b 69 ≡ false = grind (arith, nat_tests) in
    ap (λ t. t || eqb b 69) small ∙ large

exponent_shape : (t : Bool) (part : List ℕ) → (t ≡ true → are_digits part ≡ true) → (not t || are_digits part) ≡ true
exponent_shape true part h = h refl
exponent_shape false part h = refl

from_parts : (text digits written : List ℕ) → mantissa text ≡ digits → list_all is_digit digits ≡ true → 0 < length digits → written_exponent text ≡ written
    → (has_exponent text ≡ true → are_digits (without_leading_sign written) ≡ true) → length text ≤ 400
    → length (significant digits) ≤ 38 → digits_value 10 (without_leading_sign written) ≤ 400
    → decimal_of text
    ≡ Ok (scaled_value (starts_with_minus text) (digits_value 10 (significant digits)) ((signed_digits_value 10 written +ℤ pos (zeros_after digits)) -ℤ pos 0))
from_parts text digits written front all some behind shape short few near =
    let place = no_place is_point digits no_point all in
    let whole : whole_part text ≡ digits = ap (before_first is_point) front ∙ take_all (position_or_len is_point digits) digits (omega (arith, place)) in
    let fraction : fraction_part text ≡ [] = ap (after_first is_point) front ∙ drop_all (position_or_len is_point digits + 1) digits (omega (arith, place)) in
    let both : mantissa_digits text ≡ digits = ap (λ w. w ++ fraction_part text) whole ∙ ap (λ f. digits ++ f) fraction ∙ append-nil digits in
    let are : are_digits digits ≡ true = and_from (ltb 0 (length digits)) (list_all is_digit digits) (lt-ltb _ _ some) all in
    let part = exponent_shape (has_exponent text) (without_leading_sign (written_exponent text))
    (λ has. ap (λ w. are_digits (without_leading_sign w)) behind ∙ shape has) in
    let shaped : is_decimal text ≡ true =
    and_from (leb (length text) 400 && are_digits (mantissa_digits text)) _
    (and_from (leb (length text) 400) (are_digits (mantissa_digits text)) (le-leb _ _ short) (ap are_digits both ∙ are)) part in
    let least : length (significant (mantissa_digits text)) ≤ 38 = subst (λ l. length (significant l) ≤ 38) (sym both) few in
    let close : digits_value 10 (without_leading_sign (written_exponent text)) ≤ 400 =
    subst (λ w. digits_value 10 (without_leading_sign w) ≤ 400) (sym behind) near in
    sym (has_value text shaped least close)
    ∙ ap Ok (ap (λ l. scaled_value (starts_with_minus text) (digits_value 10 (significant l))
    ((signed_digits_value 10 (written_exponent text) +ℤ pos (zeros_after l)) -ℤ pos (length (fraction_part text)))) both
    ∙ ap (λ w. scaled_value (starts_with_minus text) (digits_value 10 (significant digits))
    ((signed_digits_value 10 w +ℤ pos (zeros_after digits)) -ℤ pos (length (fraction_part text)))) behind
    ∙ ap (λ f. scaled_value (starts_with_minus text) (digits_value 10 (significant digits))
    ((signed_digits_value 10 written +ℤ pos (zeros_after digits)) -ℤ pos (length f))) fraction)

-- ---- signs

plain : (xs : List ℕ) → is_digit (get_or xs 0 0) ≡ true → (without_leading_sign xs ≡ xs) × (starts_with_minus xs ≡ false)
plain xs is =
    let range = digit_range (get_or xs 0 0) is in
    let low : 48 ≤ get_or xs 0 0 = range.0 in
    let minus : eqb (get_or xs 0 0) 45 ≡ false = grind (arith, nat_tests) in
    let plus : eqb (get_or xs 0 0) 43 ≡ false = grind (arith, nat_tests) in
    (ap (λ t. cond t (drop 1 xs) (drop (cond (eqb (get_or xs 0 0) 43) 1 0) xs)) minus ∙ ap (λ t. drop (cond t 1 0) xs) plus, minus)

pub record IsUnsigned (negative : Bool) (text rest : List ℕ) : Type 0 where
  pub rest_is : without_leading_sign text ≡ rest
  pub negative_is : starts_with_minus text ≡ negative

unsigned : (negative : Bool) (digits rest : List ℕ) → list_all is_digit digits ≡ true → 0 < length digits
    → IsUnsigned negative ((let sign : List ℕ = cond negative (45 ∷ []) [] in sign) ++ digits ++ rest) (digits ++ rest)
unsigned true digits rest all some = record { rest_is = refl; negative_is = refl }
unsigned false digits rest all some =
    let p = plain (digits ++ rest) (ap is_digit (front_at digits rest some) ∙ digit_at digits 0 all some) in
    record { rest_is = p.0; negative_is = p.1 }

-- ---- exponents

pub record IsExponent (written : List ℕ) (exponent : ℤ) : Type 0 where
  pub shape : are_digits (without_leading_sign written) ≡ true
  pub near : digits_value 10 (without_leading_sign written) ≤ 400
  pub value : signed_digits_value 10 written ≡ exponent
  pub short : length written ≤ 4

three : (n : ℕ) → n ≤ 400 → length (decimal n) ≤ 3
three n near = length-decimal-le_wide 3 n (omega arith) (omega arith) (omega arith)

exponent_text : (exponent : ℤ) → negsuc 399 ≤ℤ exponent → exponent ≤ℤ pos 400 → IsExponent (signed_decimal exponent) exponent
exponent_text (pos n) low high =
    let near : n ≤ 400 = omega (arith, ints) in
    let w = written n (omega arith) in
    let p = plain (decimal n) (digit_at (decimal n) 0 w.all w.some) in
    let value : digits_value 10 (without_leading_sign (decimal n)) ≡ n = ap (digits_value 10) p.0 ∙ w.value in
    record {
      shape = ap are_digits p.0 ∙ and_from (ltb 0 (length (decimal n))) (list_all is_digit (decimal n)) (lt-ltb _ _ w.some) w.all;
      near = omega (arith, value, near);
      value = ap (λ t. cond t (neg_ℤ (pos (digits_value 10 (without_leading_sign (decimal n))))) (pos (digits_value 10 (without_leading_sign (decimal n))))) p.1
          ∙ ap pos value;
      short = omega (arith, three n near);
    }
exponent_text (negsuc m) low high =
    let n = suc m in
    let near : n ≤ 400 = omega (arith, ints) in
    let w = written n (omega arith) in
    record {
      shape = and_from (ltb 0 (length (decimal n))) (list_all is_digit (decimal n)) (lt-ltb _ _ w.some) w.all;
      near = omega (arith, w.value, near);
      value = ap (λ v. neg_ℤ (pos v)) w.value;
      short = omega (arith, three n near);
    }

-- ---- the whole text

-- no exponent
without_exponent : (negative : Bool) (text digits : List ℕ) → IsUnsigned negative text digits → list_all is_digit digits ≡ true
    → 0 < length digits → length text ≤ 400 → length (significant digits) ≤ 38
    → decimal_of text ≡ Ok (scaled_value negative (digits_value 10 (significant digits)) ((pos 0 +ℤ pos (zeros_after digits)) -ℤ pos 0))
without_exponent negative text digits u all some short few =
    let place = no_place is_exponent_mark digits no_mark all in
    let front : mantissa text ≡ digits =
    ap (before_first is_exponent_mark) u.rest_is ∙ take_all (position_or_len is_exponent_mark digits) digits (omega (arith, place)) in
    let behind : written_exponent text ≡ [] =
    ap (after_first is_exponent_mark) u.rest_is ∙ drop_all (position_or_len is_exponent_mark digits + 1) digits (omega (arith, place)) in
    let none : has_exponent text ≡ false = ap (list_any is_exponent_mark) u.rest_is
    ∙ list_any_none is_exponent_mark digits (λ k d inside. no_mark (get_or digits k d) (AllPass-from_list_all is_digit digits all k d inside)) in
    from_parts text digits [] front all some behind (λ has. absurd (let no = sym none ∙ has in cc)) short few (omega arith)
    ∙ ap (λ n. Ok (scaled_value n (digits_value 10 (significant digits)) ((pos 0 +ℤ pos (zeros_after digits)) -ℤ pos 0))) u.negative_is

mark_place : (digits part : List ℕ) → list_all is_digit digits ≡ true → position_or_len is_exponent_mark (digits ++ 101 ∷ part) ≡ length digits
mark_place digits part all =
    let place = no_place is_exponent_mark digits no_mark all in
    let same : eqb (position_or_len is_exponent_mark digits) (length digits) ≡ true = grind (arith, nat_tests) in
    prefix_len-append (λ b. not (is_exponent_mark b)) digits (101 ∷ part)
    ∙ ap (λ t. cond t (length digits + 0) (position_or_len is_exponent_mark digits)) same ∙ omega arith

with_exponent : (negative : Bool) (text digits part : List ℕ) (exponent : ℤ) → IsUnsigned negative text (digits ++ 101 ∷ part) → IsExponent part exponent
    → list_all is_digit digits ≡ true → 0 < length digits → length text ≤ 400 → length (significant digits) ≤ 38
    → decimal_of text ≡ Ok (scaled_value negative (digits_value 10 (significant digits)) ((exponent +ℤ pos (zeros_after digits)) -ℤ pos 0))
with_exponent negative text digits part exponent u e all some short few =
    let place = mark_place digits part all in
    let front : mantissa text ≡ digits = ap (before_first is_exponent_mark) u.rest_is ∙ ap (λ n. take n (digits ++ 101 ∷ part)) place
    ∙ take-append-le (length digits) digits (101 ∷ part) (omega arith) ∙ take_all (length digits) digits (omega arith) in
    let again : digits ++ 101 ∷ part ≡ (digits ++ 101 ∷ []) ++ part = sym (append_assoc digits (101 ∷ []) part) in
    let long : length (digits ++ 101 ∷ []) ≡ length digits + 1 = length-append digits (101 ∷ []) in
    let behind : written_exponent text ≡ part = ap (after_first is_exponent_mark) u.rest_is ∙ ap (λ n. drop (n + 1) (digits ++ 101 ∷ part)) place
    ∙ ap (λ n. drop n (digits ++ 101 ∷ part)) (sym long) ∙ front_rest (digits ++ 101 ∷ part) (digits ++ 101 ∷ []) part again in
    from_parts text digits part front all some behind (λ _. e.shape) short few e.near
    ∙ ap (λ n. Ok (scaled_value n (digits_value 10 (significant digits)) ((signed_digits_value 10 part +ℤ pos (zeros_after digits)) -ℤ pos 0))) u.negative_is
    ∙ ap (λ z. Ok (scaled_value negative (digits_value 10 (significant digits)) ((z +ℤ pos (zeros_after digits)) -ℤ pos 0))) e.value

made : Bool → ℕ → ℤ → DecimalValue
made negative digits exponent = record { negative = negative; digits = digits; exponent = exponent }

-- the digits and the exponent of a canonical text give its value
settled : (v : DecimalValue) → IsWritten v.digits (decimal v.digits) → (v.digits ≢ 0 → v.digits % 10 ≢ 0)
    → (v.digits ≡ 0 → (v.negative ≡ false) × (v.exponent ≡ pos 0))
    → scaled_value v.negative (digits_value 10 (significant (decimal v.digits))) ((v.exponent +ℤ pos (zeros_after (decimal v.digits))) -ℤ pos 0) ≡ v
unfolding made
settled v w trimmed none = by (eqb v.digits 0) refl
  where
    by : (t : Bool) → eqb v.digits 0 ≡ t
        → scaled_value v.negative (digits_value 10 (significant (decimal v.digits))) ((v.exponent +ℤ pos (zeros_after (decimal v.digits))) -ℤ pos 0) ≡ v
    by true e =
        let nil : v.digits ≡ 0 = grind (arith, nat_tests) in
        let zero_text : decimal v.digits ≡ 48 ∷ [] = ap decimal nil ∙ decimal_digit 0 (omega arith) in
        let value : digits_value 10 (significant (decimal v.digits)) ≡ 0 = ap (λ l. digits_value 10 (significant l)) zero_text in
        scaled_as v.negative _ _ value
        ∙ sym (ap (λ n. made n v.digits v.exponent) (none nil).0 ∙ ap (λ d. made false d v.exponent) nil ∙ ap (made false 0) (none nil).1)
    by false e =
        let some : v.digits ≢ 0 = grind (arith, nat_tests) in
        let same : digits_value 10 (significant (decimal v.digits)) ≡ v.digits =
        ap (digits_value 10) (all_significant v.digits (decimal v.digits) w (trimmed some)) ∙ w.value in
        let last : zeros_after (decimal v.digits) ≡ 0 = w.last (trimmed some) in
        let exponent : (v.exponent +ℤ pos (zeros_after (decimal v.digits))) -ℤ pos 0 ≡ v.exponent = omega (arith, ints, last) in
        ap (λ d. scaled_value v.negative d ((v.exponent +ℤ pos (zeros_after (decimal v.digits))) -ℤ pos 0)) same
        ∙ ap (scaled_value v.negative v.digits) exponent ∙ scaled_some v.negative v.digits v.exponent some

sign_length : (negative : Bool) → length (let sign : List ℕ = cond negative (45 ∷ []) [] in sign) ≤ 1
sign_length true = omega arith
sign_length false = omega arith

no_exponent : (exponent : ℤ) → nat_abs exponent ≡ 0 → exponent ≡ pos 0
no_exponent (pos n) none = ap pos none
no_exponent (negsuc n) none = absurd (omega arith)

pub reads_back : (v : DecimalValue) → v.digits < 10 ^ 38 → (v.digits ≢ 0 → v.digits % 10 ≢ 0) → (v.digits ≡ 0 → (v.negative ≡ false) × (v.exponent ≡ pos 0))
    → negsuc 399 ≤ℤ v.exponent → v.exponent ≤ℤ pos 400 → decimal_of (canonical v) ≡ Ok v
reads_back v below trimmed none low high = by (eqb (nat_abs v.exponent) 0) refl
  where
    digits : List ℕ
    digits = decimal v.digits

    sign : List ℕ
    sign = cond v.negative (45 ∷ []) []

    w : IsWritten v.digits digits
    w = written v.digits (omega (arith, below))

    few : length digits ≤ 38
    few = length-decimal-le_wide 38 v.digits (omega arith) below (omega (arith, below))

    least : length (significant digits) ≤ 38
    least = omega (arith, significant-le digits, few)

    long : (rest : List ℕ) → length rest ≤ 5 → length (sign ++ digits ++ rest) ≤ 400
    long rest short = omega (arith, length-append (sign ++ digits) rest, length-append sign digits, sign_length v.negative, few, short)

    settled_is : scaled_value v.negative (digits_value 10 (significant digits)) ((v.exponent +ℤ pos (zeros_after digits)) -ℤ pos 0) ≡ v
    settled_is = settled v w trimmed none

    by : (t : Bool) → eqb (nat_abs v.exponent) 0 ≡ t
        → decimal_of (sign ++ digits ++ (let rest : List ℕ = cond t [] (101 ∷ signed_decimal v.exponent) in rest)) ≡ Ok v
    by true e =
        let nil : nat_abs v.exponent ≡ 0 = grind (arith, nat_tests) in
        let at : v.exponent ≡ pos 0 = no_exponent v.exponent nil in
        let u = subst (IsUnsigned v.negative (sign ++ digits ++ [])) (append-nil digits) (unsigned v.negative digits [] w.all w.some) in
        without_exponent v.negative (sign ++ digits ++ []) digits u w.all w.some (long [] (omega arith)) least
        ∙ ap Ok (ap (λ z. scaled_value v.negative (digits_value 10 (significant digits)) ((z +ℤ pos (zeros_after digits)) -ℤ pos 0)) (sym at) ∙ settled_is)
    by false e =
        let part = exponent_text v.exponent low high in
        with_exponent v.negative (sign ++ digits ++ 101 ∷ signed_decimal v.exponent) digits (signed_decimal v.exponent) v.exponent
        (unsigned v.negative digits (101 ∷ signed_decimal v.exponent) w.all w.some) part w.all w.some
        (long (101 ∷ signed_decimal v.exponent) (omega (arith, part.short))) least
        ∙ ap Ok settled_is

pub aligned_reads_back : (negative : Bool) (leading padding : ℕ) (last : ℤ) → IsAligned negative leading padding last
    → (let v : DecimalValue = aligned_value negative leading padding last in negsuc 399 ≤ℤ v.exponent → v.exponent ≤ℤ pos 400 → decimal_of (canonical v) ≡ Ok v)
aligned_reads_back negative leading padding last a = reads_back (aligned_value negative leading padding last) small trimmed none
  where
    small : leading / 10 ^ padding < 10 ^ 38
    small =
        let power : 1 ≤ 10 ^ padding = one-le-pow padding 10 (omega arith) in
        let more : leading / 10 ^ padding * 1 ≤ leading / 10 ^ padding * 10 ^ padding = mul-le-mul_left (leading / 10 ^ padding) power in
        omega (arith, more, a.padded, a.below)

    zero_from : leading / 10 ^ padding ≡ 0 → leading ≡ 0
    zero_from e = sym a.padded ∙ ap (λ d. d * 10 ^ padding) e ∙ zero-mul (10 ^ padding)

    trimmed : leading / 10 ^ padding ≢ 0 → leading / 10 ^ padding % 10 ≢ 0
    trimmed some = a.trimmed (λ none. some (ap (λ n. n / 10 ^ padding) none ∙ zero-div (10 ^ padding)))

    none : leading / 10 ^ padding ≡ 0 → (negative ≡ false) × (last +ℤ pos padding ≡ pos 0)
    none e =
        let nil = a.zero (zero_from e) in
        (nil.0, ap (λ z. z +ℤ pos padding) nil.1 ∙ ap (λ p. pos 0 +ℤ pos p) nil.2)

pub text_reads_back : {E : Type 0} (v : DecimalValue) (result : Result (List ℕ) E) → IfOk result (λ text. text ≡ canonical v)
    → decimal_of (canonical v) ≡ Ok v → IfOk result (λ text. decimal_of text ≡ Ok v)
text_reads_back v (Ok text) is back = ap decimal_of is ∙ back
text_reads_back v (Err e) is back = is
