-- Items in the buckets of a table, in the order in which they came.
use Rattle.std.specs.Prelude.{◌≡◌, ◌≢◌, ℕ, ◌%◌, ◌<◌, List, [], ◌∷◌, ◌++◌, Option, Some, MatchOption, slice_get}

-- how many buckets there are, and the bucket of each item
pub record Buckets : Type 0 where
  pub room : ℕ
  pub items : List ℕ

-- the last item in a bucket among those before a bound, if there is one
abbrev pub IsNewest : List ℕ → ℕ → ℕ → Option ℕ → Type 0
IsNewest items bound bucket found = MatchOption found
    ((i : ℕ) → i < bound → slice_get items i ≢ Some bucket)
    (λ at. (at < bound) × (slice_get items at ≡ Some bucket) × ((i : ℕ) → at < i → i < bound → slice_get items i ≢ Some bucket))

-- one more item, in the bucket of its key
abbrev pub with_item : Buckets → ℕ → Buckets
with_item table key = record { room = table.room; items = table.items ++ key % table.room ∷ [] }
