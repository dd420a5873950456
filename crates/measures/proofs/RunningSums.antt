-- The running sums of cells, one cell after another.
use Rattle.std.proofs.Common.{◌≡◌, ◌∙◌, ap, ℕ, ◌+◌, ◌/◌, ◌++◌, List, [], ◌∷◌, cond, drop, eqb, get_or, map, refl}
use Rattle.std.specs.List.{range_with_len}
use Rattle.std.proofs.lemmas.List.{length_push}
use Rattle.std.proofs.lemmas.List.Sums.{sum_by_push}
use Rattle.measures.specs.declared.cells.Cell.{Cell}
use Rattle.measures.specs.declared.means.Summary.{Summary}
use Rattle.measures.specs.declared.totals.Sums.{Sums}
use Rattle.measures.specs.Means.{measure_count, summary_of, values_of}
use Rattle.measures.specs.Totals.{sums_of}

-- the sums with those of one more cell
abbrev pub with_cell : Sums → Cell → Sums
with_cell sums cell = record {
  topics = sums.topics + 1;
  ret = sums.ret + cell.ret;
  rel = sums.rel + cell.rel;
  rel_ret = sums.rel_ret + cell.rel_ret;
  values = map (λ place. get_or sums.values place 0 + get_or (values_of cell) place 0) (range_with_len 0 measure_count);
}

pushed : (cells : List Cell) (cell : Cell) → with_cell (sums_of cells) cell ≡ sums_of (cells ++ cell ∷ [])
unfolding sums_of
pushed cells cell = simp (length_push, sum_by_push)

pub one_more_cell : (sums : Sums) (cells : List Cell) (cell : Cell) → sums ≡ sums_of cells → with_cell sums cell ≡ sums_of (cells ++ cell ∷ [])
one_more_cell sums cells cell are = ap (λ (s : Sums). with_cell s cell) are ∙ pushed cells cell

-- a sum divided by the number of the cells
abbrev pub share_of : ℕ → ℕ → ℕ
share_of sum topics = cond (eqb topics 0) 0 (sum / topics)

-- the means of the measures, from sums
abbrev pub shares_from : Sums → List ℕ
shares_from sums = map (λ place. share_of (get_or sums.values place 0) sums.topics) (range_with_len 0 measure_count)

-- the summary of these sums, with these means
abbrev pub summary_from : Sums → List ℕ → Summary
summary_from sums means = record {
  topics = sums.topics;
  ret = sums.ret;
  rel = sums.rel;
  rel_ret = sums.rel_ret;
  map = get_or means 0 0;
  r_prec = get_or means 1 0;
  bpref = get_or means 2 0;
  recip = get_or means 3 0;
  at = drop 4 means;
}

means_are : (cells : List Cell) → summary_from (sums_of cells) (shares_from (sums_of cells)) ≡ summary_of cells
unfolding sums_of summary_of
means_are cells = refl

pub means_of_sums : (sums : Sums) (cells : List Cell) → sums ≡ sums_of cells → summary_from sums (shares_from sums) ≡ summary_of cells
means_of_sums sums cells are = ap (λ (s : Sums). summary_from s (shares_from s)) are ∙ means_are cells
