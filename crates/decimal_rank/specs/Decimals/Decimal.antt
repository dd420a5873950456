-- The exact value of a decimal, and the order of values.
use Rattle.std.specs.Prelude.{ℕ, ◌*◌, ◌^◌, ℤ, pos, neg_ℤ, Bool, true, false}
use Rattle.std.specs.Int.{int_gap, int_min}
use Rattle.std.specs.Ordering.{int_cmp}
use Rattle.std.specs.declared.cmp.Ordering.{Ordering}

-- a sign, and a whole number times ten to the exponent
pub record DecimalValue : Type 0 where
  pub negative : Bool
  pub digits : ℕ
  pub exponent : ℤ

abbrev pub signed_number : Bool → ℕ → ℤ
signed_number false n = pos n
signed_number true n = neg_ℤ (pos n)

-- the value in units of ten to an exponent that is no greater than its own
abbrev pub in_units : ℤ → DecimalValue → ℤ
in_units exponent v = signed_number v.negative (v.digits * 10 ^ int_gap exponent v.exponent)

-- both are brought to the lesser exponent, and the whole numbers are compared
unfoldable pub decimal_cmp : DecimalValue → DecimalValue → Ordering
decimal_cmp a b =
    let lesser = int_min a.exponent b.exponent in
    int_cmp (in_units lesser a) (in_units lesser b)

-- the value without its sign
abbrev pub magnitude_of : DecimalValue → DecimalValue
magnitude_of v = record v { negative = false }
