-- How the two labels of documents agree.
use Rattle.std.specs.Prelude.{ℕ, ◌==◌, ◌&&◌, ◌||◌, Bool, nat_le}

-- the grades of two labels are equal
abbrev pub are_equal : ℕ × ℕ → Bool
are_equal pair = pair.0 == pair.1

-- both are relevant, where a grade from the level on is relevant
abbrev pub are_both : ℕ → ℕ × ℕ → Bool
are_both level pair = nat_le level pair.0 && nat_le level pair.1

-- at least one is
abbrev pub is_either : ℕ → ℕ × ℕ → Bool
is_either level pair = nat_le level pair.0 || nat_le level pair.1
