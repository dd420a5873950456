-- Texts of visible bytes, as names and numbers are.
use Rattle.std.proofs.Common.{◌≡◌, ◌<◌, ◌^◌, ◌==◌, ◌&&◌, ℕ, zero, suc, Bool, true, false, not, List, [], ◌∷◌, IsAscii, arith, decimal, length, nat_le, nat_lt, reverse, refl, ap, ◌∙◌, le-leb, leb-true, lt-ltb, ltb-true, ne_eqb}
use Rattle.std.specs.List.{list_all}
use Rattle.std.specs.Str.Parse.{AllDigits}
use Rattle.std.proofs.lemmas.Bool.{and_from, and_parts, or_from, or_right}
use Rattle.std.proofs.lemmas.Fmt.{decimal_is_IsNumeral, decimal_nonempty}
use Rattle.std.proofs.lemmas.List.{reverse-append}
use Rattle.std.proofs.lemmas.List.Folds.{list_all-append}
use Rattle.std.proofs.lemmas.Str.Parse.{digit_from_value}
use Rattle.httparse.specs.Grammar.{AllPass, is_ows, is_uri_byte, is_value_byte, skip_ows, trim_ows}
use Rattle.httparse.proofs.TrimLemmas.{trim_ows_space}
use Rattle.decimal_rank.specs.Decimals.DecimalText.{are_digits, is_digit}
use Rattle.drill.specs.Messages.{is_visible}

bounds : (b : ℕ) → is_visible b ≡ true → (32 < b) × (b < 127)
bounds b is = let parts = and_parts (nat_lt 32 b) (nat_lt b 127) is in (ltb-true 32 b parts.0, ltb-true b 127 parts.1)

pub visible : (b : ℕ) → 32 < b → b < 127 → is_visible b ≡ true
visible b above below = and_from (nat_lt 32 b) (nat_lt b 127) (lt-ltb 32 b above) (lt-ltb b 127 below)

-- each byte that passes a test passes a weaker one
pub weaker : (p q : ℕ → Bool) → ((b : ℕ) → p b ≡ true → q b ≡ true) → (text : List ℕ) → list_all p text ≡ true → list_all q text ≡ true
weaker p q so [] all = refl
weaker p q so (b ∷ text) all =
    let parts = and_parts (p b) (list_all p text) all in and_from (q b) (list_all q text) (so b parts.0) (weaker p q so text parts.1)

pub each-passes : (test : ℕ → Bool) (text : List ℕ) → list_all test text ≡ true → AllPass test text
each-passes test [] all k d few = absurd (omega (arith, few))
each-passes test (b ∷ text) all zero d few = (and_parts (test b) (list_all test text) all).0
each-passes test (b ∷ text) all (suc k) d few = each-passes test text (and_parts (test b) (list_all test text) all).1 k d (omega (arith, few))

pub ascii : (text : List ℕ) → list_all is_visible text ≡ true → IsAscii text
ascii [] all i = omega arith
ascii (b ∷ text) all zero = (let below = (bounds b (and_parts (is_visible b) (list_all is_visible text) all).0).1 in omega (arith, below))
ascii (b ∷ text) all (suc i) = ascii text (and_parts (is_visible b) (list_all is_visible text) all).1 i

-- what a visible byte may stand in
pub in_target : (b : ℕ) → is_visible b ≡ true → is_uri_byte b ≡ true
in_target b is =
    let inside = bounds b is in
    let other : (b == 127) ≡ false = ne_eqb b 127 (λ same. omega (arith, same, inside.1)) in
    and_from (nat_lt 32 b) (not (b == 127)) (lt-ltb 32 b inside.0) (ap not other)

pub in_value : (b : ℕ) → is_visible b ≡ true → is_value_byte b ≡ true
in_value b is =
    let inside = bounds b is in
    let other : (b == 127) ≡ false = ne_eqb b 127 (λ same. omega (arith, same, inside.1)) in
    or_right (b == 9) (nat_le 32 b && not (b == 127)) (and_from (nat_le 32 b) (not (b == 127)) (le-leb 32 b (omega (arith, inside.0))) (ap not other))

-- a byte that doesn't end a line
abbrev pub is_inside : ℕ → Bool
is_inside b = not (b == 10)

pub in_line : (b : ℕ) → is_visible b ≡ true → is_inside b ≡ true
in_line b is = ap not (ne_eqb b 10 (λ same. omega (arith, same, (bounds b is).0)))

-- behind a space a visible text is a value without white space around it

unskipped : (text : List ℕ) → list_all is_visible text ≡ true → skip_ows text ≡ text
unskipped [] all = refl
unskipped (b ∷ text) all =
    let above = (bounds b (and_parts (is_visible b) (list_all is_visible text) all).0).0 in
    let other : is_ows b ≡ false = or_from (b == 32) (b == 9) (ne_eqb b 32 (λ same. omega (arith, same, above)))
    (ne_eqb b 9 (λ same. omega (arith, same, above))) in
    rw other refl

reversed : (text : List ℕ) → list_all is_visible text ≡ true → list_all is_visible (reverse text) ≡ true
reversed [] all = refl
reversed (b ∷ text) all =
    let parts = and_parts (is_visible b) (list_all is_visible text) all in
    ap (list_all is_visible) (reverse-append (b ∷ []) text)
    ∙ list_all-append is_visible (reverse text) (b ∷ [])
    ∙ and_from (list_all is_visible (reverse text)) (list_all is_visible (b ∷ [])) (reversed text parts.1) (and_from (is_visible b) true parts.0 refl)

pub trimmed : (text : List ℕ) → list_all is_visible text ≡ true → trim_ows (32 ∷ text) ≡ text
trimmed text all = trim_ows_space text (unskipped text all) (unskipped (reverse text) (reversed text all))

-- Numbers

digits_pass : (ds : List ℕ) → AllDigits 10 ds → list_all is_digit ds ≡ true
digits_pass [] all = refl
digits_pass (c ∷ cs) all =
    let inside = digit_from_value c all.0 in
    and_from (is_digit c) (list_all is_digit cs)
    (and_from (nat_le 48 c) (nat_le c 57) (le-leb 48 c (omega (arith, inside))) (le-leb c 57 (omega (arith, inside)))) (digits_pass cs all.1)

in_digits : (b : ℕ) → is_digit b ≡ true → is_visible b ≡ true
in_digits b is =
    let parts = and_parts (nat_le 48 b) (nat_le b 57) is in visible b (omega (arith, leb-true 48 b parts.0)) (omega (arith, leb-true b 57 parts.1))

module _ (n : ℕ) (small : n < 2 ^ 64) where
  pub decimal_digits : are_digits (decimal n) ≡ true
  decimal_digits =
      and_from (nat_lt 0 (length (decimal n))) (list_all is_digit (decimal n)) (lt-ltb 0 (length (decimal n)) (decimal_nonempty n small))
      (digits_pass (decimal n) (decimal_is_IsNumeral n small).0.1)

  pub decimal_visible : list_all is_visible (decimal n) ≡ true
  decimal_visible = weaker is_digit is_visible in_digits (decimal n) (digits_pass (decimal n) (decimal_is_IsNumeral n small).0.1)
