-- What a rank weighs in the sums of average precision.
use Rattle.std.specs.Prelude.{ℕ, ◌/◌, ◌^◌}

-- 1 over a rank, in units of 10^-15 and rounded down
abbrev pub weight : ℕ → ℕ
weight rank = 10 ^ 15 / rank
