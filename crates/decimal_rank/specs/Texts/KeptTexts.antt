-- The bytes of a text where they stand: in place, or on the heap.
use Rattle.std.specs.Prelude.{ℕ, ◌≤◌, List, take}
use Rattle.decimal_rank.specs.declared.texts.StoredBytes.{StoredBytes}
use Rattle.decimal_rank.specs.declared.texts.StoredBytes.TheVariants.{Short, Long}

-- the bytes of a text
abbrev pub kept_bytes : StoredBytes → List ℕ
kept_bytes (Short len bytes) = take len bytes
kept_bytes (Long bytes) = bytes.items

-- 23 bytes stand in place at most
abbrev pub IsWithinRoom : StoredBytes → Type 0
IsWithinRoom (Short len bytes) = len ≤ 23
IsWithinRoom (Long bytes) = Unit {0}
