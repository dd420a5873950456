-- The running sums of cells, from which their means are taken.
use Rattle.std.specs.Prelude.{ℕ, ◌*◌, ◌^◌, ◌<◌, ◌≤◌, List, map, length, sum_by, slice_index}
use Rattle.measures.specs.declared.cells.Cell.{Cell}
use Rattle.measures.specs.declared.totals.Sums.{Sums}
use Rattle.measures.specs.Means.{measure_count, measures, value_of}

-- the number of some cells, the sums of their counts, and the sum of their values by each measure
unfoldable pub sums_of : List Cell → Sums
sums_of cells = record {
  topics = length cells;
  ret = sum_by (λ cell. cell.ret) cells;
  rel = sum_by (λ cell. cell.rel) cells;
  rel_ret = sum_by (λ cell. cell.rel_ret) cells;
  values = map (λ measure. sum_by (value_of measure) cells) measures;
}

-- no value is over 1, and each count has 32 bits
pub record AreBounded (sums : Sums) : Type 0 where
  pub topics : sums.topics < 2 ^ 32
  pub ret : sums.ret ≤ sums.topics * 2 ^ 32
  pub rel : sums.rel ≤ sums.topics * 2 ^ 32
  pub rel_ret : sums.rel_ret ≤ sums.topics * 2 ^ 32
  pub values : (i : ℕ) → i < measure_count → slice_index sums.values i ≤ sums.topics * 10 ^ 15
