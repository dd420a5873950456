-- The counts and sums of one ranked list on one topic, from which its measures are taken.
use Rattle.std.specs.Prelude.{ℕ, ◌+◌, ◌-◌, ◌*◌, ◌^◌, ◌<◌, ◌≤◌, ◌==◌, if◌then◌else◌, min, List, [], ◌∷◌, Option, map, length, position, count_by, slice_index}
use Rattle.std.specs.Option.{option_map_or}
pub use Rattle.decimal_rank.specs.Rankings.Weights.{weight}
use Rattle.measures.specs.declared.cells.Cell.{Cell}
use Rattle.measures.specs.Grades.{is_relevant, relevant_to, non_relevant_to, sum_over_relevant}

-- the cutoffs k of the measures P_k
abbrev pub cutoffs : List ℕ
cutoffs = 5 ∷ 10 ∷ 15 ∷ 20 ∷ 30 ∷ 100 ∷ 200 ∷ 500 ∷ 1000 ∷ []

-- the sum, over the relevant documents, of the relevant ones down to it over its rank
abbrev pub ap_sum_of : ℕ → List (Option ℕ) → ℕ
ap_sum_of level grades = sum_over_relevant level grades (λ k. relevant_to level grades k * weight k)

-- the rank of the first relevant document; 0 where there is none
abbrev pub first_relevant : ℕ → List (Option ℕ) → ℕ
first_relevant level grades = option_map_or (λ place. place + 1) (position (is_relevant level) grades) 0

-- what is left of the cap at rank k: of the documents above that are judged and not relevant each takes 1 from it
abbrev pub left_of_cap : ℕ → List (Option ℕ) → ℕ → ℕ → ℕ
left_of_cap level grades cap k = cap - min cap (non_relevant_to level grades (k - 1))

-- The numerator of bpref. The cap is the lesser of r and n; where it is 0, each relevant document counts 1.
abbrev pub bpref_num : ℕ → List (Option ℕ) → ℕ → ℕ → ℕ
bpref_num level grades r n =
    if r == 0 then 0
    else (if min r n == 0 then count_by (is_relevant level) grades
    else sum_over_relevant level grades (left_of_cap level grades (min r n)))

-- the denominator of bpref
abbrev pub bpref_den : ℕ → ℕ → ℕ
bpref_den r n = if r == 0 then 1 else (if min r n == 0 then r else r * min r n)

-- the cell of a ranked list on a topic that has r relevant documents and n that are judged lower
unfoldable pub cell_of : List (Option ℕ) → ℕ → ℕ → ℕ → Cell
cell_of grades r n level = record {
  ret = length grades;
  rel = r;
  rel_ret = count_by (is_relevant level) grades;
  at = map (relevant_to level grades) cutoffs;
  r_prec = relevant_to level grades r;
  first = first_relevant level grades;
  ap_sum = ap_sum_of level grades;
  bpref_num = bpref_num level grades r n;
  bpref_den = bpref_den r n;
}

-- the bounds that each list keeps, and that keep each measure at 1 or below
pub record IsSound (cell : Cell) : Type 0 where
  pub ap_sum : cell.ap_sum ≤ cell.rel * 10 ^ 15
  pub at : (i : ℕ) → i < 9 → slice_index cell.at i ≤ slice_index cutoffs i
  pub r_prec : cell.r_prec ≤ cell.rel
  pub bpref_den : 0 < cell.bpref_den
  pub bpref_num : cell.bpref_num ≤ cell.bpref_den
