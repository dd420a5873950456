-- Sums of which one moves, and marks that are put and taken.
use Rattle.std.proofs.Common.{◌≡◌, ℕ, ◌+◌, ◌<◌, ◌≤◌, Bool, false, min, List, length, map, take, set, get_or, sym, ap, ◌∙◌, arith, subst}
use Rattle.std.proofs.lemmas.List.{set-get_or, set-set}
use Rattle.measures.specs.Cells.{bpref_den, cutoffs}
use Rattle.measures.specs.declared.cells.Cell.{Cell}
use Rattle.rank_trees.specs.PlacesOn.{count_on}
use Rattle.score_index.specs.KeptSums.{AreSums}
use Rattle.score_index.specs.Places.{Places, bpref_from, cap_reached_places, cell_by, first_from, precisions, preferences}
use Rattle.score_index.specs.declared.sums.Sums.{Sums}
use Rattle.score_index.proofs.Cells.PlaceSums.{preferences-cap}

abbrev pub places_of : List Bool → List Bool → Places
places_of relevant lower = record { relevant = relevant; lower = lower }

pub moved : (cap to : ℕ) (relevant was lower : List Bool) (sums result : Sums) (n : ℕ)
    → AreSums cap (places_of relevant was) sums → length lower ≡ length relevant
    → n ≡ preferences to 0 relevant lower → result ≡ record sums { preferences = n } → AreSums to (places_of relevant lower) result
moved cap to relevant was lower sums result n are long is result_is = record {
  few = are.few;
  long = long;
  rel_ret = ap (λ (s : Sums). s.rel_ret) result_is ∙ are.rel_ret;
  at = ap (λ (s : Sums). s.at) result_is ∙ are.at;
  ap_sum = ap (λ (s : Sums). s.ap_sum) result_is ∙ are.ap_sum;
  preferences = ap (λ (s : Sums). s.preferences) result_is ∙ is;
}

-- the cap goes up by one
pub cap_up : (from to : ℕ) (relevant lower : List Bool) → from < to → to ≤ from + 1
    → preferences to 0 relevant lower ≡ preferences from 0 relevant lower + cap_reached_places from 0 relevant lower
cap_up from to relevant lower more near = let e : to ≡ from + 1 = omega (arith, more, near) in
    ap (λ n. preferences n 0 relevant lower) e ∙ preferences-cap from 0 relevant lower

-- a mark that is put where it stands already
pub set-same : (on : List Bool) (i : ℕ) (b : Bool) → get_or on i false ≡ b → set on i b ≡ on
set-same on i b is = ap (set on i) (sym is) ∙ set-get_or on i false

-- a mark that is taken and put again
pub set-back : (on now : List Bool) (i : ℕ) (a b : Bool) → now ≡ set on i a → get_or on i false ≡ b → set now i b ≡ on
set-back on now i a b now_is is = ap (λ xs. set xs i b) now_is ∙ set-set on i a b ∙ set-same on i b is

-- a mark that is put twice
pub set-again : (on now : List Bool) (i : ℕ) (b : Bool) → now ≡ set on i b → set now i b ≡ now
set-again on now i b now_is = ap (λ xs. set xs i b) now_is ∙ set-set on i b b ∙ sym now_is

pub same_sums : (cap : ℕ) (relevant lower relevant' lower' : List Bool) (sums : Sums) → relevant ≡ relevant' → lower ≡ lower'
    → AreSums cap (places_of relevant lower) sums → AreSums cap (places_of relevant' lower') sums
same_sums cap relevant lower relevant' lower' sums a b are = subst (λ (p : Places). AreSums cap p sums) (λ i. places_of (a i) (b i)) are

-- what a list's cell says of its places, whatever the topic's counts are
pub record TellsPlaces (relevant : List Bool) (r : ℕ) (cell : Cell) : Type 0 where
  pub rel : cell.rel ≡ r
  pub ret : cell.ret ≡ length relevant
  pub rel_ret : cell.rel_ret ≡ count_on relevant
  pub at : cell.at ≡ map (λ k. count_on (take k relevant)) cutoffs
  pub ap_sum : cell.ap_sum ≡ precisions 1 0 relevant
  pub r_prec : cell.r_prec ≡ count_on (take cell.rel relevant)
  pub first : cell.first ≡ first_from 1 relevant

pub cell-places : (relevant lower : List Bool) (r n : ℕ) (cell : Cell) → cell ≡ cell_by relevant lower r n → TellsPlaces relevant r cell
unfolding cell_by
cell-places relevant lower r n cell is = record {
  rel = ap (λ (c : Cell). c.rel) is;
  ret = ap (λ (c : Cell). c.ret) is;
  rel_ret = ap (λ (c : Cell). c.rel_ret) is;
  at = ap (λ (c : Cell). c.at) is;
  ap_sum = ap (λ (c : Cell). c.ap_sum) is;
  r_prec = ap (λ (c : Cell). c.r_prec) is ∙ ap (λ k. count_on (take k relevant)) (sym (ap (λ (c : Cell). c.rel) is));
  first = ap (λ (c : Cell). c.first) is;
}

pub same_cell : (relevant lower : List Bool) (r n ret rel_ret r_prec first ap_sum num den : ℕ) (at : List ℕ)
    → ret ≡ length relevant → rel_ret ≡ count_on relevant
    → at ≡ map (λ k. count_on (take k relevant)) cutoffs → r_prec ≡ count_on (take r relevant)
    → first ≡ first_from 1 relevant → ap_sum ≡ precisions 1 0 relevant
    → num ≡ bpref_from relevant r n (preferences (min r n) 0 relevant lower) → den ≡ bpref_den r n
    → ◌≡◌ {A = Cell}
    (record { ret = ret; rel = r; rel_ret = rel_ret; at = at; r_prec = r_prec; first = first; ap_sum = ap_sum; bpref_num = num; bpref_den = den })
    (cell_by relevant lower r n)
unfolding cell_by
same_cell relevant lower r n ret rel_ret r_prec first ap_sum num den at a b c d e f g h = λ i. record {
  ret = a i;
  rel = r;
  rel_ret = b i;
  at = c i;
  r_prec = d i;
  first = e i;
  ap_sum = f i;
  bpref_num = g i;
  bpref_den = h i;
}
