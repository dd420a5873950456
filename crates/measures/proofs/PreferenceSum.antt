-- The numerator of bpref, rank after rank.
use Rattle.std.proofs.Common.{◌≡◌, ℕ, ◌+◌, ◌-◌, ◌*◌, ◌<◌, ◌≤◌, List, true, false, length, get_or, ap, sym, ◌∙◌, arith, refl}
use Rattle.std.specs.Prelude.{Option, Some, None, min}
use Rattle.std.proofs.lemmas.Bool.{le-ltb, leb-true}
use Rattle.std.proofs.lemmas.List.Sums.{count_by_more_yes, count_by_more_no}
use Rattle.measures.specs.Grades.{is_relevant, is_non_relevant, relevant_to, non_relevant_to, sum_over_relevant}
use Rattle.measures.specs.Cells.{left_of_cap}
use Rattle.measures.proofs.RelevantSum.{sum_to, nothing_added, one_added, all_added}

-- the count of the documents that are judged lower and the sum are those of the first ranks
pub record IsPreferred (level : ℕ) (grades : List (Option ℕ)) (cap rank lower sum : ℕ) : Type 0 where
  pub counted : lower ≡ non_relevant_to level grades rank
  pub total : sum ≡ sum_to level grades (left_of_cap level grades cap) rank
  pub few : lower ≤ rank
  pub within : sum ≤ relevant_to level grades rank * cap

-- no document is relevant and judged lower
pub not_both : (level : ℕ) (grade : Option ℕ) → is_relevant level grade ≡ true → is_non_relevant level grade ≡ false
not_both level None relevant = refl
not_both level (Some grade) relevant = le-ltb grade level (leb-true level grade relevant)

pub unjudged : (level : ℕ) (grades : List (Option ℕ)) (cap rank lower sum : ℕ) (d : Option ℕ) → rank < length grades
    → is_relevant level (get_or grades rank d) ≡ false → is_non_relevant level (get_or grades rank d) ≡ false
    → IsPreferred level grades cap rank lower sum → IsPreferred level grades cap (rank + 1) lower sum
unjudged level grades cap rank lower sum d h one other s = record {
  counted = s.counted ∙ sym (count_by_more_no (is_non_relevant level) grades rank d h other);
  total = nothing_added level grades (left_of_cap level grades cap) rank sum d h one s.total;
  few = omega (arith, s.few);
  within = rw (count_by_more_no (is_relevant level) grades rank d h one) s.within;
}

pub judged_lower : (level : ℕ) (grades : List (Option ℕ)) (cap rank lower sum : ℕ) (d : Option ℕ) → rank < length grades
    → is_relevant level (get_or grades rank d) ≡ false → is_non_relevant level (get_or grades rank d) ≡ true
    → IsPreferred level grades cap rank lower sum → IsPreferred level grades cap (rank + 1) (lower + 1) sum
judged_lower level grades cap rank lower sum d h one other s = record {
  counted = ap (λ n. n + 1) s.counted ∙ sym (count_by_more_yes (is_non_relevant level) grades rank d h other);
  total = nothing_added level grades (left_of_cap level grades cap) rank sum d h one s.total;
  few = omega (arith, s.few);
  within = rw (count_by_more_no (is_relevant level) grades rank d h one) s.within;
}

pub relevant : (level : ℕ) (grades : List (Option ℕ)) (cap rank lower sum : ℕ) (d : Option ℕ) → rank < length grades
    → is_relevant level (get_or grades rank d) ≡ true
    → IsPreferred level grades cap rank lower sum → IsPreferred level grades cap (rank + 1) lower (sum + (cap - min cap lower))
relevant level grades cap rank lower sum d h graded s =
    let value : cap - min cap lower ≡ left_of_cap level grades cap (rank + 1) =
    ap (λ n. cap - min cap n) s.counted ∙ ap (λ k. cap - min cap (non_relevant_to level grades k)) (omega arith) in
    record {
      counted = s.counted ∙ sym (count_by_more_no (is_non_relevant level) grades rank d h (not_both level (get_or grades rank d) graded));
      total = one_added level grades (left_of_cap level grades cap) rank sum (cap - min cap lower) d h graded value s.total;
      few = omega (arith, s.few);
      within = omega (arith, s.within, ap (λ n. n * cap) (count_by_more_yes (is_relevant level) grades rank d h graded));
    }

pub all_preferred : (level : ℕ) (grades : List (Option ℕ)) (cap rank lower sum : ℕ) → length grades ≤ rank
    → IsPreferred level grades cap rank lower sum → sum ≡ sum_over_relevant level grades (left_of_cap level grades cap)
all_preferred level grades cap rank lower sum h s = all_added level grades (left_of_cap level grades cap) rank sum h s.total
