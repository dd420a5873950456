-- Whether a document is relevant by its grade. A document that isn't judged has none.
use Rattle.std.specs.Prelude.{ℕ, Bool, false, Option, Some, None, nat_le, nat_lt}

-- graded with at least the level
abbrev pub is_relevant : ℕ → Option ℕ → Bool
is_relevant level None = false
is_relevant level (Some grade) = nat_le level grade

-- graded below the level
abbrev pub is_non_relevant : ℕ → Option ℕ → Bool
is_non_relevant level None = false
is_non_relevant level (Some grade) = nat_lt grade level
