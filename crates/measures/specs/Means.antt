-- The value of a measure on one topic, and its mean over topics. The unit of a value is 10^-15.
use Rattle.std.specs.Prelude.{⊤, ℕ, ◌*◌, ◌/◌, ◌^◌, ◌<◌, ◌≤◌, ◌==◌, if◌then◌else◌, All, List, ◌∷◌, map, length, sum_by, slice_index}
use Rattle.std.specs.List.{range_with_len}
use Rattle.measures.specs.declared.cells.Cell.{Cell}
use Rattle.measures.specs.declared.means.Measure.{Measure}
use Rattle.measures.specs.declared.means.Measure.TheVariants.{Map, RPrec, Bpref, RecipRank, Precision}
use Rattle.measures.specs.declared.means.Summary.{Summary}
use Rattle.measures.specs.Cells.{cutoffs}

-- a measure P_k is named by its place among the cutoffs, from 0
abbrev pub IsMeasure : Measure → Type 0
IsMeasure Map = ⊤
IsMeasure RPrec = ⊤
IsMeasure Bpref = ⊤
IsMeasure RecipRank = ⊤
IsMeasure (Precision place) = place < 9

-- the measures in the order in which they are printed
abbrev pub measures : List Measure
measures = Map ∷ RPrec ∷ Bpref ∷ RecipRank ∷ map Precision (range_with_len 0 9)

abbrev pub measure_count : ℕ
measure_count = length measures

-- a over b, rounded down
abbrev pub fixed_of : ℕ → ℕ → ℕ
fixed_of a b = a * 10 ^ 15 / b

-- the value on a topic that has relevant documents
abbrev pub share_of : Measure → Cell → ℕ
share_of Map cell = cell.ap_sum / cell.rel
share_of RPrec cell = fixed_of cell.r_prec cell.rel
share_of Bpref cell = fixed_of cell.bpref_num cell.bpref_den
share_of RecipRank cell = if cell.first == 0 then 0 else fixed_of 1 cell.first
share_of (Precision place) cell = fixed_of (slice_index cell.at place) (slice_index cutoffs place)

-- the value on a topic: 0 where no document is relevant
abbrev pub value_of : Measure → Cell → ℕ
value_of measure cell = if cell.rel == 0 then 0 else share_of measure cell

-- the value of each measure on a topic
abbrev pub values_of : Cell → List ℕ
values_of cell = map (λ measure. value_of measure cell) measures

-- the sum of the values divided by their number, rounded down; 0 where there is none
abbrev pub mean_by : (Cell → ℕ) → List Cell → ℕ
mean_by value cells = if length cells == 0 then 0 else sum_by value cells / length cells

-- the sums and means over the counted topics, of which each has one cell
unfoldable pub summary_of : List Cell → Summary
summary_of cells = record {
  topics = length cells;
  ret = sum_by (λ cell. cell.ret) cells;
  rel = sum_by (λ cell. cell.rel) cells;
  rel_ret = sum_by (λ cell. cell.rel_ret) cells;
  map = mean_by (value_of Map) cells;
  r_prec = mean_by (value_of RPrec) cells;
  bpref = mean_by (value_of Bpref) cells;
  recip = mean_by (value_of RecipRank) cells;
  at = map (λ place. mean_by (value_of (Precision place)) cells) (range_with_len 0 9);
}

-- the mean of a measure in a summary
abbrev pub mean_in : Summary → Measure → ℕ
mean_in summary Map = summary.map
mean_in summary RPrec = summary.r_prec
mean_in summary Bpref = summary.bpref
mean_in summary RecipRank = summary.recip
mean_in summary (Precision place) = slice_index summary.at place

-- the mean of each measure in a summary
abbrev pub means_in : Summary → List ℕ
means_in summary = map (mean_in summary) measures

-- each mean is at most 1
abbrev pub IsProper : Summary → Type 0
IsProper summary = All (λ mean. mean ≤ 10 ^ 15) (means_in summary)
