-- The sum of average precision, rank after rank.
use Rattle.std.proofs.Common.{◌≡◌, ℕ, ◌+◌, ◌*◌, ◌/◌, ◌^◌, ◌<◌, ◌≤◌, List, true, false, length, get_or, ap, sym, ◌∙◌, arith}
use Rattle.std.specs.Prelude.{Option}
use Rattle.std.proofs.lemmas.List.Sums.{count_by_more_yes, count_by_more_no}
use Rattle.std.proofs.Math.Nat.{mul-le-mul_right, mul-div-le}
use Rattle.measures.specs.Grades.{is_relevant, relevant_to}
use Rattle.measures.specs.Cells.{weight, ap_sum_of}
use Rattle.measures.proofs.RelevantSum.{sum_to, nothing_added, one_added, all_added}

-- what a relevant document at a rank adds
abbrev pub precision : ℕ → List (Option ℕ) → ℕ → ℕ
precision level grades k = relevant_to level grades k * weight k

-- the count and the sum are those of the first ranks
pub record IsSummed (level : ℕ) (grades : List (Option ℕ)) (rank relevant sum : ℕ) : Type 0 where
  pub counted : relevant ≡ relevant_to level grades rank
  pub total : sum ≡ sum_to level grades (precision level grades) rank
  pub few : relevant ≤ rank
  pub within : sum ≤ relevant * 10 ^ 15

pub passed_over : (level : ℕ) (grades : List (Option ℕ)) (rank relevant sum : ℕ) (d : Option ℕ) → rank < length grades
    → is_relevant level (get_or grades rank d) ≡ false → IsSummed level grades rank relevant sum
    → IsSummed level grades (rank + 1) relevant sum
passed_over level grades rank relevant sum d h lower s = record {
  counted = s.counted ∙ sym (count_by_more_no (is_relevant level) grades rank d h lower);
  total = nothing_added level grades (precision level grades) rank sum d h lower s.total;
  few = omega (arith, s.few);
  within = s.within;
}

pub added : (level : ℕ) (grades : List (Option ℕ)) (rank relevant sum : ℕ) (d : Option ℕ) → rank < length grades
    → is_relevant level (get_or grades rank d) ≡ true → IsSummed level grades rank relevant sum
    → IsSummed level grades (rank + 1) (relevant + 1) (sum + (relevant + 1) * (10 ^ 15 / (rank + 1)))
added level grades rank relevant sum d h graded s =
    let count : relevant + 1 ≡ relevant_to level grades (rank + 1) =
    ap (λ n. n + 1) s.counted ∙ sym (count_by_more_yes (is_relevant level) grades rank d h graded) in
    record {
      counted = count;
      total =
          one_added level grades (precision level grades) rank sum ((relevant + 1) * weight (rank + 1)) d h graded
          (ap (λ n. n * weight (rank + 1)) count) s.total;
      few = omega (arith, s.few);
      within =
          let most : relevant + 1 ≤ rank + 1 = omega (arith, s.few) in
          omega (arith, s.within, mul-le-mul_right (10 ^ 15 / (rank + 1)) most, mul-div-le (10 ^ 15) (rank + 1));
    }

pub all_summed : (level : ℕ) (grades : List (Option ℕ)) (rank relevant sum : ℕ) → length grades ≤ rank
    → IsSummed level grades rank relevant sum → sum ≡ ap_sum_of level grades
all_summed level grades rank relevant sum h s = all_added level grades (precision level grades) rank sum h s.total
