-- A decimal's digits kept left-aligned: 38 of them, of which the last ones fill up with padding.
use Rattle.std.specs.Prelude.{◌≡◌, ◌≢◌, ℕ, ◌+◌, ◌*◌, ◌/◌, ◌%◌, ◌^◌, ◌==◌, ◌<◌, ◌≤◌, ℤ, pos, negsuc, ◌≤ℤ◌, ◌+ℤ◌, Bool, false, if◌then◌else◌}
use Rattle.std.specs.Int.{int_gap}
use Rattle.decimal_rank.specs.Decimals.Decimal.{DecimalValue, signed_number}

-- the value of left-aligned digits
abbrev pub aligned_value : Bool → ℕ → ℕ → ℤ → DecimalValue
aligned_value negative leading padding last =
    record { negative = negative; digits = leading / 10 ^ padding; exponent = last +ℤ pos padding }

-- 38 digits, the padding at their end and no others, and an exponent of few digits, or zero without a sign
pub record IsAligned (negative : Bool) (leading padding : ℕ) (last : ℤ) : Type 0 where
  pub below : leading < 10 ^ 38
  pub full : leading ≢ 0 → 10 ^ 37 ≤ leading
  pub padded : leading / 10 ^ padding * 10 ^ padding ≡ leading
  pub trimmed : leading ≢ 0 → leading / 10 ^ padding % 10 ≢ 0
  pub short : padding < 38
  pub low : negsuc 1999 ≤ℤ last
  pub high : last ≤ℤ pos 1999
  pub zero : leading ≡ 0 → (negative ≡ false) × (last ≡ pos 0) × (padding ≡ 0)

-- the exponent, and behind it the first digits, which are below 2 ^ 51; 0 for the value 0
abbrev pub size_key : ℕ → ℤ → ℕ
size_key leading last = if leading == 0 then 0 else int_gap (negsuc 1999) last * 2 ^ 51 + leading / 2 ^ 76

-- a number that orders as the values do, where numbers differ
abbrev pub IsKeyed : Bool → ℕ → ℤ → ℤ → Type 0
IsKeyed negative leading last key = key ≡ signed_number negative (size_key leading last)
