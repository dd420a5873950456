-- Places that are on or off: how many are on, which is the one with so many before it, and what they weigh. Places are counted from 1.
use Rattle.std.specs.Prelude.{◌≡◌, ℕ, ◌+◌, ◌-◌, ◌≤◌, Bool, true, false, List, [], ◌∷◌, Some, cond, count_by, drop, map, nat_lt, slice_get, take}
pub use Rattle.decimal_rank.specs.Rankings.Weights.{weight}

-- how many are on
abbrev pub count_on : List Bool → ℕ
count_on on = count_by (λ b. b) on

-- how many places less than a place are on
abbrev pub count_on_below : List Bool → ℕ → ℕ
count_on_below on place = count_on (take (place - 1) on)

-- the (j + 1)th place that is on
pub record IsSelected (on : List Bool) (j place : ℕ) : Type 0 where
  pub from_one : 1 ≤ place
  pub is_on : slice_get on (place - 1) ≡ Some true
  pub before : count_on_below on place ≡ j

-- what the places on weigh together, where the list begins at a place
abbrev pub weights_from : ℕ → List Bool → ℕ
weights_from place [] = 0
weights_from place (true ∷ on) = weight place + weights_from (place + 1) on
weights_from place (false ∷ on) = weights_from (place + 1) on

-- what the places on and greater than a place weigh together
abbrev pub weights_above : List Bool → ℕ → ℕ
weights_above on place = weights_from (place + 1) (drop place on)

-- what each place weighs where it is on, and else 0; the list begins at a place
abbrev pub weights_of : ℕ → List Bool → List ℕ
weights_of place [] = []
weights_of place (b ∷ on) = cond b (weight place) 0 ∷ weights_of (place + 1) on

-- which numbers aren't 0
abbrev pub are_on : List ℕ → List Bool
are_on numbers = map (nat_lt 0) numbers
