-- The buckets in which a table finds items.
use Rattle.std.specs.Prelude.{◌≡◌, ℕ, ◌%◌, Bool, true, List, Some, length, slice_get}
use Rattle.decimal_rank.specs.Tables.Buckets.{Buckets}

-- the table's items are these, and each that passes a test is in the bucket of a key
pub record AreUnder {X : Type 0} (is : X → Bool) (table : Buckets) (items : List X) (key : ℕ) : Type 0 where
  pub sized : length table.items ≡ length items
  pub each : (i : ℕ) (item : X) → slice_get items i ≡ Some item → is item ≡ true → slice_get table.items i ≡ Some (key % table.room)
