-- The texts that a field may be.
use Rattle.std.specs.Prelude.{◌==◌, ℕ, Bool, if◌then◌else◌, ◌&&◌, ◌||◌, nat_le, List, length, Option, Some, None}
use Rattle.std.specs.List.{list_all}
use Rattle.std.specs.Str.Parse.{digits_value}
use Rattle.decimal_rank.specs.Bytes.{exclamation_mark, full_stop, hyphen, lower_a, lower_z, tilde, underscore, upper_a, upper_z}
use Rattle.decimal_rank.specs.Decimals.DecimalText.{is_digit}

-- from the low number to the high one, both included
abbrev pub is_between : ℕ → ℕ → ℕ → Bool
is_between low high n = nat_le low n && nat_le n high

-- a letter, a digit, '.', '_' or '-'
abbrev pub is_name_byte : ℕ → Bool
is_name_byte b = is_digit b || is_between upper_a upper_z b || is_between lower_a lower_z b || b == full_stop || b == underscore || b == hyphen

-- the id of a topic, or the name of a run
unfoldable pub is_name : List ℕ → Bool
is_name text = is_between 1 32 (length text) && list_all is_name_byte text

-- the number of a document: 1 to 64 visible ASCII bytes
unfoldable pub is_docno : List ℕ → Bool
is_docno text = is_between 1 64 (length text) && list_all (is_between exclamation_mark tilde) text

-- the value of a field of digits alone, up to 255
unfoldable pub grade_of : List ℕ → Option ℕ
grade_of text = if list_all is_digit text && nat_le (digits_value 10 text) 255 then Some (digits_value 10 text) else None
