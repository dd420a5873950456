-- The chains of a table: each bucket leads to its newest item, and each item to the one before it.
use Rattle.std.specs.Prelude.{◌≡◌, ℕ, ◌<◌, ◌≤◌, ◌^◌, List, Option, None, Some, length, map, get_or, slice_get}
use Rattle.decimal_rank.specs.Tables.Buckets.{IsNewest}
use Rattle.decimal_rank.specs.declared.tables.chains.Link.{Link}

abbrev pub buckets : List Link → List ℕ
buckets links = map (λ link. link.bucket) links

-- what a bucket and an item lead to
pub record AreLinked (newest : List (Option ℕ)) (links : List Link) : Type 0 where
  pub some : 0 < length newest
  pub room : length newest ≤ 2 ^ 32
  pub few : length links < 2 ^ 32
  pub from_bucket : (bucket : ℕ) → bucket < length newest → IsNewest (buckets links) (length links) bucket (get_or newest bucket None)
  pub from_item : (item : ℕ) (link : Link) → slice_get links item ≡ Some link → IsNewest (buckets links) item link.bucket link.earlier
