-- The digits of a text's first part as they are read.
use Rattle.std.specs.Prelude.{◌≡◌, ℕ, ◌<◌, ◌≤◌, ◌-◌, ◌^◌, List, length, take, min}
use Rattle.std.specs.Str.Parse.{digits_value, starts_with_minus}
use Rattle.decimal_rank.specs.Decimals.DecimalText.{without_leading_zeros, zeros_after, whole_part, fraction_part, written_exponent}
use Rattle.decimal_rank.specs.declared.decimals.significands.Significand.{Significand}
use Rattle.decimal_rank.specs.declared.decimals.score_parts.Parts.{Parts}

-- the first 38 digits from the first that isn't 0, how many there are, and the zeros at their end
pub record IsSignificand (digits : List ℕ) (s : Significand) : Type 0 where
  pub number : s.number ≡ digits_value 10 (take 38 (without_leading_zeros digits))
  pub count : s.count ≡ length (without_leading_zeros digits)
  pub zeros : s.zeros ≡ zeros_after (without_leading_zeros digits)
  pub below : s.number < 10 ^ min s.count 38
  pub full : 0 < s.count → 10 ^ (min s.count 38 - 1) ≤ s.number
  pub some : 0 < s.count → s.zeros < s.count

-- the parts of a text
pub record ArePartsOf (text : List ℕ) (parts : Parts) : Type 0 where
  pub negative : parts.negative ≡ starts_with_minus text
  pub whole : parts.whole.now ≡ whole_part text
  pub fraction : parts.fraction.now ≡ fraction_part text
  pub exponent : parts.exponent.now ≡ written_exponent text
