-- Sums over places, block by block: each leaf of a tree is the sum of a block.
use Rattle.std.specs.Prelude.{◌≡◌, ℕ, zero, suc, ◌+◌, ◌*◌, ◌/◌, ◌≤◌, Bool, false, List, [], ◌∷◌, drop, length, slice_index_or, take}
use Rattle.rank_trees.specs.PlacesOn.{count_on}

-- what each of so many blocks of a size comes to, where the list begins at a place
abbrev pub block_sums : (ℕ → List Bool → ℕ) → ℕ → ℕ → ℕ → List Bool → List ℕ
block_sums measure size zero place on = []
block_sums measure size (suc blocks) place on = measure place (take size on) ∷ block_sums measure size blocks (place + size) (drop size on)

-- how many are on, wherever the list begins
abbrev pub count_from : ℕ → List Bool → ℕ
count_from place on = count_on on

-- words for so many places, those behind the last off, and the sums of their blocks
pub record AreSummed (measure : ℕ → List Bool → ℕ) (size blocks len : ℕ) (places : List Bool) (sums : List ℕ) : Type 0 where
  pub few : len ≤ 1000
  pub long : length places ≡ 64 * (len / 64 + 1)
  pub rest : (i : ℕ) → len ≤ i → slice_index_or places i false ≡ false
  pub sums_are : sums ≡ block_sums measure size blocks 1 places
