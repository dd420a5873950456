-- A number that a word writes.
use Rattle.std.specs.Prelude.{ℕ, Bool, ◌&&◌, List, Option, Some, None, length, nat_le, if◌then◌else◌}
use Rattle.std.specs.Str.Parse.{digits_value}
use Rattle.decimal_rank.specs.Decimals.DecimalText.{are_digits}

-- 1 to 10 decimal digits
abbrev pub is_short_number : List ℕ → Bool
is_short_number text = nat_le (length text) 10 && are_digits text

-- the number within these bounds, both included, that the word writes in 1 to 10 decimal digits
abbrev pub number_in_word : ℕ → ℕ → List ℕ → Option ℕ
number_in_word low high text =
    if is_short_number text && (nat_le low (digits_value 10 text) && nat_le (digits_value 10 text) high) then Some (digits_value 10 text) else None
