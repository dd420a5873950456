-- A complete binary tree of sums as one list: under node k stand 2k and 2k + 1, and the leaves begin at 2 ^ depth.
use Rattle.std.specs.Prelude.{◌≡◌, ℕ, zero, suc, ◌+◌, ◌-◌, ◌*◌, ◌^◌, ◌<◌, ◌≤◌, List, drop, length, slice_index, sum, take}
use Rattle.decimal_rank.specs.Rankings.Places.{levels}

-- the sum of so many nodes from a node on
abbrev pub span : List ℕ → ℕ → ℕ → ℕ
span nodes start zero = 0
span nodes start (suc count) = span nodes start count + slice_index nodes (start + count)

-- each node above the leaves is the sum of the two under it; the greater its number is, the less it can be
pub record AreNodeSums (depth : ℕ) (nodes : List ℕ) : Type 0 where
  pub low : depth ≤ 6
  pub size : length nodes ≡ 2 * 2 ^ depth
  pub sums : (k : ℕ) → 1 ≤ k → k < 2 ^ depth → slice_index nodes k ≡ slice_index nodes (2 * k) + slice_index nodes (2 * k + 1)
  pub small : (k : ℕ) → k * slice_index nodes k ≤ 2048 * 10 ^ 15

-- the leaves
abbrev pub leaves_of : ℕ → ℕ → List ℕ → List ℕ
leaves_of len depth nodes = take len (drop (2 ^ depth) nodes)

-- there is room for the leaves, which are one or more, and where none is, the sum is 0
pub record IsSumTree (len depth : ℕ) (nodes : List ℕ) : Type 0 where
  pub some : 1 ≤ len
  pub few : len ≤ 64
  pub deep : depth ≡ levels (len - 1)
  pub sums : AreNodeSums depth nodes
  pub rest : (k : ℕ) → 2 ^ depth + len ≤ k → slice_index nodes k ≡ 0

-- the first leaf with which the sum of the leaves exceeds a number, and what the leaves before it leave of the number
pub record IsReached (leaves : List ℕ) (number index rest : ℕ) : Type 0 where
  pub within : index < length leaves
  pub before : sum (take index leaves) + rest ≡ number
  pub reached : rest < slice_index leaves index
