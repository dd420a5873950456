-- The cell of a list by its places: which are relevant, and which are judged lower.
use Rattle.std.specs.Prelude.{ℕ, suc, ◌+◌, ◌-◌, ◌*◌, ◌==◌, Bool, true, false, List, [], ◌∷◌, drop, if◌then◌else◌, length, map, min, take}
use Rattle.measures.specs.Cells.{bpref_den, cutoffs, weight}
use Rattle.measures.specs.declared.cells.Cell.{Cell}
use Rattle.qrels_view.specs.Grades.{as_number}
use Rattle.rank_trees.specs.PlacesOn.{count_on, weights_from}

-- the places of a list, from 1: which are relevant, and which are judged lower
pub record Places : Type 0 where
  pub relevant : List Bool
  pub lower : List Bool

-- the first place that is on, and 0 where none is; the list begins at a place
abbrev pub first_from : ℕ → List Bool → ℕ
first_from place [] = 0
first_from place (true ∷ on) = place
first_from place (false ∷ on) = first_from (place + 1) on

-- the sum, over the relevant places, of the relevant ones down to it times its weight; the list begins at a place, with so many relevant ones before it
abbrev pub precisions : ℕ → ℕ → List Bool → ℕ
precisions place found [] = 0
precisions place found (true ∷ relevant) = (found + 1) * weight place + precisions (place + 1) (found + 1) relevant
precisions place found (false ∷ relevant) = precisions (place + 1) found relevant

-- what a place adds to this sum where it becomes relevant, counted from 0 along the list
abbrev pub precision_gain : ℕ → ℕ → List Bool → ℕ → ℕ
precision_gain place found relevant i = (found + count_on (take i relevant) + 1) * weight (place + i) + weights_from (place + i + 1) (drop (suc i) relevant)

-- the sum, over the relevant places, of what the lower ones above it leave of the cap; so many lower ones stand before the list
abbrev pub preferences : ℕ → ℕ → List Bool → List Bool → ℕ
preferences cap lower [] others = 0
preferences cap lower (r ∷ relevant) [] = 0
preferences cap lower (true ∷ relevant) (other ∷ others) = (cap - lower) + preferences cap (lower + as_number other) relevant others
preferences cap lower (false ∷ relevant) (other ∷ others) = preferences cap (lower + as_number other) relevant others

-- how many relevant places have at most the cap of lower ones above them; so many lower ones stand before the list
abbrev pub cap_reached_places : ℕ → ℕ → List Bool → List Bool → ℕ
cap_reached_places cap lower [] others = 0
cap_reached_places cap lower (r ∷ relevant) [] = 0
cap_reached_places cap lower (true ∷ relevant) (other ∷ others) = (1 - (lower - cap)) + cap_reached_places cap (lower + as_number other) relevant others
cap_reached_places cap lower (false ∷ relevant) (other ∷ others) = cap_reached_places cap (lower + as_number other) relevant others

-- the numerator of bpref from the sum of what is left of the cap: where the cap is 0 each relevant place counts 1
abbrev pub bpref_from : List Bool → ℕ → ℕ → ℕ → ℕ
bpref_from relevant r n sum = if r == 0 then 0 else (if min r n == 0 then count_on relevant else sum)

-- the cell of a list whose topic has r relevant documents and n that are judged lower
unfoldable pub cell_by : List Bool → List Bool → ℕ → ℕ → Cell
cell_by relevant others r n = record {
  ret = length relevant;
  rel = r;
  rel_ret = count_on relevant;
  at = map (λ k. count_on (take k relevant)) cutoffs;
  r_prec = count_on (take r relevant);
  first = first_from 1 relevant;
  ap_sum = precisions 1 0 relevant;
  bpref_num = bpref_from relevant r n (preferences (min r n) 0 relevant others);
  bpref_den = bpref_den r n;
}
