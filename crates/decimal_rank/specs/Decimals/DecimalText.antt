-- What a score's text stands for, and the canonical text of a decimal.
use Rattle.std.specs.Prelude.{ℕ, ◌-◌, ◌==◌, ◌&&◌, ◌||◌, not, Bool, false, List, [], ◌∷◌, ◌++◌, length, take, drop, ℤ, pos, ◌+ℤ◌, ◌-ℤ◌, nat_le, nat_lt, nat_abs, Result, Ok, Err, if◌then◌else◌, decimal}
use Rattle.std.specs.Fmt.{signed_decimal}
use Rattle.std.specs.List.{list_all, list_any, prefix_len, suffix_len, before_first, after_first}
use Rattle.std.specs.Str.Parse.{digits_value, signed_digits_value, starts_with_minus, without_leading_sign}
use Rattle.decimal_rank.specs.Bytes.{full_stop, hyphen, lower_e, nine_digit, upper_e, zero_digit}
use Rattle.decimal_rank.specs.Decimals.Decimal.{DecimalValue}
use Rattle.decimal_rank.specs.declared.decimals.DecimalFault.{DecimalFault}
use Rattle.decimal_rank.specs.declared.decimals.DecimalFault.TheVariants.{Shape, Digits, Exponent}

abbrev pub is_digit : ℕ → Bool
is_digit b = nat_le zero_digit b && nat_le b nine_digit

abbrev pub is_zero : ℕ → Bool
is_zero b = b == zero_digit

abbrev pub is_point : ℕ → Bool
is_point b = b == full_stop

-- `e` or `E`
abbrev pub is_exponent_mark : ℕ → Bool
is_exponent_mark b = b == lower_e || b == upper_e

-- the first part of a text, without the sign
abbrev pub mantissa : List ℕ → List ℕ
mantissa text = before_first is_exponent_mark (without_leading_sign text)

-- the exponent as it is written, with its sign, and nothing where none is
abbrev pub written_exponent : List ℕ → List ℕ
written_exponent text = after_first is_exponent_mark (without_leading_sign text)

abbrev pub has_exponent : List ℕ → Bool
has_exponent text = list_any is_exponent_mark (without_leading_sign text)

-- what stands before the point, and behind it
abbrev pub whole_part : List ℕ → List ℕ
whole_part text = before_first is_point (mantissa text)

abbrev pub fraction_part : List ℕ → List ℕ
fraction_part text = after_first is_point (mantissa text)

-- the digits of the first part, the point left out
abbrev pub mantissa_digits : List ℕ → List ℕ
mantissa_digits text = whole_part text ++ fraction_part text

-- one digit or more, and nothing else
abbrev pub are_digits : List ℕ → Bool
are_digits part = nat_lt 0 (length part) && list_all is_digit part

-- at most 400 bytes: an optional sign, digits with at most one point, and optionally a mark, a sign and digits
abbrev pub is_decimal : List ℕ → Bool
is_decimal text =
    nat_le (length text) 400 && are_digits (mantissa_digits text)
    && (not (has_exponent text) || are_digits (without_leading_sign (written_exponent text)))

-- the digits from the first that isn't 0
abbrev pub without_leading_zeros : List ℕ → List ℕ
without_leading_zeros digits = drop (prefix_len is_zero digits) digits

-- how many zeros stand at the end
abbrev pub zeros_after : List ℕ → ℕ
zeros_after digits = suffix_len is_zero digits

-- the digits up to the last that isn't 0
abbrev pub without_trailing_zeros : List ℕ → List ℕ
without_trailing_zeros digits = take (length digits - zeros_after digits) digits

-- the digits from the first to the last that isn't 0
abbrev pub significant : List ℕ → List ℕ
significant digits = without_trailing_zeros (without_leading_zeros digits)

-- digits times ten to an exponent; zero has no sign and the exponent 0
abbrev pub scaled_value : Bool → ℕ → ℤ → DecimalValue
scaled_value negative digits exponent = if digits == 0
    then record { negative = false; digits = 0; exponent = pos 0 }
    else record { negative = negative; digits = digits; exponent = exponent }

-- the significant digits, with the exponent of the last of them
abbrev pub decimal_value : List ℕ → DecimalValue
decimal_value text =
    scaled_value (starts_with_minus text) (digits_value 10 (significant (mantissa_digits text)))
    ((signed_digits_value 10 (written_exponent text) +ℤ pos (zeros_after (mantissa_digits text))) -ℤ pos (length (fraction_part text)))

-- the value of a text, or its first fault
unfoldable pub decimal_of : List ℕ → Result DecimalValue DecimalFault
decimal_of text =
    if not (is_decimal text) then Err Shape
    else (if nat_lt 38 (length (significant (mantissa_digits text))) then Err Digits
    else (if nat_lt 400 (digits_value 10 (without_leading_sign (written_exponent text))) then Err Exponent
    else Ok (decimal_value text)))

-- a minus where the value is negative, the digits, and an exponent that isn't 0 behind an `e`
abbrev pub canonical : DecimalValue → List ℕ
canonical v =
    (if v.negative then hyphen ∷ [] else []) ++ decimal v.digits ++ (if nat_abs v.exponent == 0 then [] else lower_e ∷ signed_decimal v.exponent)
