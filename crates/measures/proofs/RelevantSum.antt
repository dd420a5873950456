-- A sum over the relevant documents, rank after rank.
use Rattle.std.proofs.Common.{◌≡◌, ℕ, ◌+◌, ◌<◌, ◌≤◌, List, true, false, cond, length, get_or, take, ap, sym, ◌∙◌, arith, add_comm, add-zero}
use Rattle.std.specs.Prelude.{Option, sum_by}
use Rattle.std.specs.List.{enumerate_from}
use Rattle.std.proofs.lemmas.List.{take_all}
use Rattle.std.proofs.lemmas.List.Sums.{sum_by_more}
use Rattle.std.proofs.lemmas.List.FromFn.{length-enumerate_from, get_or-enumerate_from}
use Rattle.measures.specs.Grades.{is_relevant, sum_over_relevant}

-- what a grade at a rank adds
abbrev pub term : ℕ → (ℕ → ℕ) → ℕ × Option ℕ → ℕ
term level f d = cond (is_relevant level d.1) (f d.0) 0

-- the sum over the first ranks
abbrev pub sum_to : ℕ → List (Option ℕ) → (ℕ → ℕ) → ℕ → ℕ
sum_to level grades f rank = sum_by (term level f) (take rank (enumerate_from 1 grades))

next_rank : (level : ℕ) (grades : List (Option ℕ)) (f : ℕ → ℕ) (rank : ℕ) (d : Option ℕ) → rank < length grades
    → sum_to level grades f (rank + 1) ≡ sum_to level grades f rank + term level f (rank + 1, get_or grades rank d)
next_rank level grades f rank d h =
    let entries = enumerate_from 1 grades in
    let inside : rank < length entries = omega (arith, length-enumerate_from 1 grades) in
    let entry : get_or entries rank (0, d) ≡ (rank + 1, get_or grades rank d) =
    get_or-enumerate_from 1 grades rank (0, d) h ∙ ap (λ (k : ℕ). let e : ℕ × Option ℕ = (k, get_or grades rank d) in e) (add_comm 1 rank) in
    sum_by_more (term level f) entries rank (0, d) inside ∙ ap (λ e. sum_to level grades f rank + term level f e) entry

-- a document that isn't relevant adds nothing
pub nothing_added : (level : ℕ) (grades : List (Option ℕ)) (f : ℕ → ℕ) (rank sum : ℕ) (d : Option ℕ) → rank < length grades
    → is_relevant level (get_or grades rank d) ≡ false → sum ≡ sum_to level grades f rank → sum ≡ sum_to level grades f (rank + 1)
nothing_added level grades f rank sum d h lower total =
    total ∙ sym (next_rank level grades f rank d h ∙ ap (λ b. sum_to level grades f rank + cond b (f (rank + 1)) 0) lower
    ∙ add-zero (sum_to level grades f rank))

-- a relevant one adds its term
pub one_added : (level : ℕ) (grades : List (Option ℕ)) (f : ℕ → ℕ) (rank sum v : ℕ) (d : Option ℕ) → rank < length grades
    → is_relevant level (get_or grades rank d) ≡ true → v ≡ f (rank + 1) → sum ≡ sum_to level grades f rank
    → sum + v ≡ sum_to level grades f (rank + 1)
one_added level grades f rank sum v d h relevant value total =
    sym (next_rank level grades f rank d h ∙ ap (λ b. sum_to level grades f rank + cond b (f (rank + 1)) 0) relevant
    ∙ ap (λ n. sum_to level grades f rank + n) (sym value) ∙ ap (λ n. n + v) (sym total))

pub all_added : (level : ℕ) (grades : List (Option ℕ)) (f : ℕ → ℕ) (rank sum : ℕ) → length grades ≤ rank
    → sum ≡ sum_to level grades f rank → sum ≡ sum_over_relevant level grades f
all_added level grades f rank sum h total =
    let end : length (enumerate_from 1 grades) ≤ rank = omega (arith, length-enumerate_from 1 grades) in
    total ∙ ap (sum_by (term level f)) (take_all rank (enumerate_from 1 grades) end)
