-- Places as numbers: a place that is on is a bit, the first of them the lowest.
use Rattle.std.specs.Prelude.{◌≡◌, ℕ, zero, suc, ◌+◌, ◌*◌, ◌/◌, ◌%◌, ◌<◌, ◌==◌, Bool, true, false, List, [], ◌∷◌, ◌++◌, cond, length, slice_index_or, take}
use Rattle.rank_trees.specs.PlacesOn.{count_on}

-- the number whose bits are these places
abbrev pub number_of_bits : List Bool → ℕ
number_of_bits [] = 0
number_of_bits (b ∷ on) = cond b 1 0 + 2 * number_of_bits on

-- so many places of a word
abbrev pub bits : ℕ → ℕ → List Bool
bits zero word = []
bits (suc width) word = (word % 2 == 1) ∷ bits width (word / 2)

-- the places of words that have so many each
abbrev pub places_in : ℕ → List ℕ → List Bool
places_in width [] = []
places_in width (word ∷ words) = bits width word ++ places_in width words

-- a place, from 0, that is on and has so many before it that are
pub record IsNth (on : List Bool) (number place : ℕ) : Type 0 where
  pub within : place < length on
  pub is_on : slice_index_or on place false ≡ true
  pub before : count_on (take place on) ≡ number
