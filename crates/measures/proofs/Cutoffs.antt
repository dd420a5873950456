-- What holds at each cutoff.
use Rattle.std.proofs.Common.{◌≡◌, ℕ, zero, suc, ◌<◌, ◌≤◌, List, map, get_or, take, ap, ◌∙◌, arith}
use Rattle.std.specs.Prelude.{Option, slice_index}
use Rattle.std.proofs.lemmas.List.{get_or-map, length-take}
use Rattle.std.proofs.lemmas.List.Sums.{count_by-le-length}
use Rattle.measures.specs.Cells.{cutoffs}
use Rattle.measures.specs.Grades.{is_relevant, relevant_to}

pub cutoff_positive : (i : ℕ) → i < 9 → 0 < slice_index cutoffs i
cutoff_positive zero h = omega arith
cutoff_positive (suc zero) h = omega arith
cutoff_positive (suc (suc zero)) h = omega arith
cutoff_positive (suc (suc (suc zero))) h = omega arith
cutoff_positive (suc (suc (suc (suc zero)))) h = omega arith
cutoff_positive (suc (suc (suc (suc (suc zero))))) h = omega arith
cutoff_positive (suc (suc (suc (suc (suc (suc zero)))))) h = omega arith
cutoff_positive (suc (suc (suc (suc (suc (suc (suc zero))))))) h = omega arith
cutoff_positive (suc (suc (suc (suc (suc (suc (suc (suc zero)))))))) h = omega arith
cutoff_positive (suc (suc (suc (suc (suc (suc (suc (suc (suc i))))))))) h = absurd (omega arith)

pub relevant_to-le : (level : ℕ) (grades : List (Option ℕ)) (k : ℕ) → relevant_to level grades k ≤ k
relevant_to-le level grades k = omega (arith, count_by-le-length (is_relevant level) (take k grades), length-take k grades)

-- no more documents are relevant up to a cutoff than the cutoff has
pub within_cutoffs : (level : ℕ) (grades : List (Option ℕ)) (counts : List ℕ) → counts ≡ map (relevant_to level grades) cutoffs
    → (i : ℕ) → i < 9 → slice_index counts i ≤ slice_index cutoffs i
within_cutoffs level grades counts e i h =
    let at : slice_index counts i ≡ relevant_to level grades (slice_index cutoffs i) =
    ap (λ xs. get_or xs i 0) e ∙ get_or-map (relevant_to level grades) cutoffs i 0 0 h in
    omega (arith, at, relevant_to-le level grades (slice_index cutoffs i))
