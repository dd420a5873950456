-- The value of a grade, as far as its bytes are read.
use Rattle.std.proofs.Common.{◌≡◌, ◌+◌, ◌*◌, ◌-◌, ◌<◌, ◌≤◌, ℕ, true, false, List, length, take, get_or, refl, arith, Some, None, leb-true, le-leb}
use Rattle.std.proofs.lemmas.Bool.{lt-leb, and_parts}
use Rattle.std.specs.Int.{IsInRange}
use Rattle.std.specs.List.{list_all}
use Rattle.std.specs.Str.Parse.{digits_value}
use Rattle.std.proofs.lemmas.List.{take_all}
use Rattle.std.proofs.lemmas.List.Folds.{list_all_at, list_all_more}
use Rattle.std.proofs.Math.Bool.{and-false}
use Rattle.std.proofs.lemmas.Int.Digits.{digits_value_more}
use Rattle.std.proofs.lemmas.Str.{digit_value_digit}
use Rattle.std.proofs.lemmas.Str.Parse.{digits_value-take-le}
use Rattle.decimal_rank.specs.Decimals.DecimalText.{is_digit}
use Rattle.trec_formats.specs.Names.{grade_of}

-- the first bytes are digits, with this value
pub record AreRead (text : List ℕ) (count value : ℕ) : Type 0 where
  pub digits : list_all is_digit (take count text) ≡ true
  pub value_is : value ≡ digits_value 10 (take count text)
  pub low : value ≤ 255

pub grade_at_other : (text : List ℕ) (i : ℕ) → i < length text → is_digit (get_or text i 0) ≡ false → grade_of text ≡ None
unfolding grade_of
grade_at_other text i within other = rw (list_all_at is_digit text i 0 within other) refl

pub grade_too_high : (text : List ℕ) (i : ℕ) → 255 < digits_value 10 (take i text) → grade_of text ≡ None
unfolding grade_of
grade_too_high text i high =
    let more : 255 < digits_value 10 text = omega (arith, high, digits_value-take-le 10 text i (omega arith)) in
    rw (lt-leb (digits_value 10 text) 255 more, and-false (list_all is_digit text)) refl

pub grade_read : (text : List ℕ) (count value : ℕ) → length text ≤ count → AreRead text count value → grade_of text ≡ Some value
unfolding grade_of
grade_read text count value all w =
    let whole : take count text ≡ text = take_all count text all in
    let digits : list_all is_digit text ≡ true = rw whole at w.digits in
    let value_is : value ≡ digits_value 10 text = rw whole at w.value_is in
    let low : digits_value 10 text ≤ 255 = omega (arith, value_is, w.low) in
    rw (digits, le-leb _ _ low, value_is) refl

pub digit_range : (b : ℕ) → is_digit b ≡ true → IsInRange 48 57 b
digit_range b is = let p = and_parts _ _ is in (leb-true _ _ p.0, leb-true _ _ p.1)

-- the value with one more digit
pub value_next : (text : List ℕ) (i value next : ℕ) → i < length text → AreRead text i value → is_digit (get_or text i 0) ≡ true
    → next ≡ value * 10 + (get_or text i 0 - 48) → next ≡ digits_value 10 (take (i + 1) text)
value_next text i value next within w digit is =
    omega (arith, is, w.value_is, digits_value_more 10 text i within, digit_value_digit (get_or text i 0) (digit_range (get_or text i 0) digit))

pub read_next : (text : List ℕ) (i value next : ℕ) → i < length text → AreRead text i value → is_digit (get_or text i 0) ≡ true
    → next ≡ value * 10 + (get_or text i 0 - 48) → next ≤ 255 → AreRead text (i + 1) next
read_next text i value next within w digit is low = record {
  digits = rw (list_all_more is_digit text i 0 within, w.digits, digit) refl;
  value_is = value_next text i value next within w digit is;
  low = low;
}
