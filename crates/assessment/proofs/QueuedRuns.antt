-- The runs of a topic's queue are those of its pool.
use Rattle.std.proofs.Common.{◌≡◌, ◌||◌, ◌<◌, ℕ, suc, zero, Bool, true, false, not, cond, List, [], ◌∷◌, length, map, get_or, refl, sym, ap, subst, ◌∙◌, arith, eq-eqb}
use Rattle.std.specs.Prelude.{◌==◌, Contains, IsPermutation, filter}
use Rattle.std.proofs.lemmas.Bool.{eqb-true}
use Rattle.std.proofs.lemmas.List.Sorted.{Contains-permutation, IsPermutation-append_comm, IsPermutation-append_left, IsPermutation-cons, IsPermutation-map, IsPermutation-refl, IsPermutation-sym, IsPermutation-trans}
use Rattle.std.proofs.Math.Bool.{or-true}
use Rattle.depth_pool.specs.declared.runs.RunId.{RunId}
use Rattle.depth_pool.specs.Holdings.{Held, has_run, put_before, with_run, without_run}
use Rattle.assessment.proofs.ListFacts.{IsPermutation-filter}

abbrev pub numbers : List Held → List RunId
numbers runs = map (λ held. held.run) runs

has-at : (runs : List Held) (run : RunId) (k : ℕ) → k < length (numbers runs) → get_or (numbers runs) k run ≡ run → has_run run runs ≡ true
has-at [] run k within is = absurd (omega (arith, within))
has-at (h ∷ runs) run zero within is = ap (λ t. t || has_run run runs) (eq-eqb _ _ (ap (λ (r : RunId). r.0) is))
has-at (h ∷ runs) run (suc k) within is = ap (λ t. (h.run.0 == run.0) || t) (has-at runs run k (omega (arith, within)) is) ∙ or-true (h.run.0 == run.0)

-- a run that isn't in the pool isn't in the queue
pub not-queued : (runs : List Held) (order : List RunId) (run : RunId) → IsPermutation (numbers runs) order → has_run run runs ≡ false → Contains order run → ⊥
not-queued runs order run same absent there =
    let at = Contains-permutation order (numbers runs) run (IsPermutation-sym (numbers runs) order same) there in
    let is : has_run run runs ≡ true = has-at runs run at.0 at.1 at.2 in
    cc (is, absent)

listed : (runs : List Held) (run : RunId) → has_run run runs ≡ true → Contains (numbers runs) run
listed [] run has = cc has
listed (h ∷ runs) run has = step (h.run.0 == run.0) refl has (listed runs run)
  where
    step : (t : Bool) → (h.run.0 == run.0) ≡ t → (t || has_run run runs) ≡ true
        → (has_run run runs ≡ true → Contains (numbers runs) run) → Contains (numbers (h ∷ runs)) run
    step true is there rest = (0, omega arith, ap (λ n. let r : RunId = record { 0 = n } in r) (eqb-true h.run.0 run.0 is))
    step false is there rest = let later = rest there in (suc later.0, omega (arith, later.1), later.2)

-- a run that is in the pool is in the queue
pub is-queued : (runs : List Held) (order : List RunId) (run : RunId) → IsPermutation (numbers runs) order → has_run run runs ≡ true → Contains order run
is-queued runs order run same has = Contains-permutation (numbers runs) order run same (listed runs run has)

put-permutes : (passes : Held → Bool) (x : Held) (ys : List Held) → IsPermutation (x ∷ ys) (put_before passes x ys)
put-permutes passes x [] = IsPermutation-refl (x ∷ [])
put-permutes passes x (y ∷ ys) = step (passes y) (put-permutes passes x ys)
  where
    step : (t : Bool) → IsPermutation (x ∷ ys) (put_before passes x ys) → IsPermutation (x ∷ y ∷ ys) (cond t (x ∷ y ∷ ys) (y ∷ put_before passes x ys))
    step true rest = IsPermutation-refl (x ∷ y ∷ ys)
    step false rest =
        IsPermutation-trans (x ∷ y ∷ ys) (y ∷ x ∷ ys) (y ∷ put_before passes x ys)
        (IsPermutation-append_left ys (x ∷ y ∷ []) (y ∷ x ∷ []) (IsPermutation-append_comm (x ∷ []) (y ∷ [])))
        (IsPermutation-cons y (x ∷ ys) (put_before passes x ys) rest)

-- the runs of the pool with one more are those of the queue with it
pub queued-runs : (runs : List Held) (order later : List RunId) (new : Held) → IsPermutation (numbers runs) order
    → IsPermutation (new.run ∷ order) later → IsPermutation (numbers (with_run new runs)) later
queued-runs runs order later new same entered =
    let put : IsPermutation (numbers (new ∷ runs)) (numbers (with_run new runs)) =
    IsPermutation-map (λ (held : Held). held.run) (new ∷ runs) (with_run new runs) (put-permutes _ new runs) in
    IsPermutation-trans (numbers (with_run new runs)) (new.run ∷ numbers runs) later
    (IsPermutation-sym (new.run ∷ numbers runs) (numbers (with_run new runs)) put)
    (IsPermutation-trans (new.run ∷ numbers runs) (new.run ∷ order) later (IsPermutation-cons new.run (numbers runs) order same) entered)

numbers-without : (run : RunId) (runs : List Held) → numbers (without_run run runs) ≡ filter (λ other. not (other.0 == run.0)) (numbers runs)
numbers-without run [] = refl
numbers-without run (h ∷ runs) = step (not (h.run.0 == run.0)) (numbers-without run runs)
  where
    step : (t : Bool) → numbers (without_run run runs) ≡ filter (λ other. not (other.0 == run.0)) (numbers runs)
        → numbers (cond t (h ∷ without_run run runs) (without_run run runs))
        ≡ cond t (h.run ∷ filter (λ other. not (other.0 == run.0)) (numbers runs)) (filter (λ other. not (other.0 == run.0)) (numbers runs))
    step true rest = ap (λ rs. h.run ∷ rs) rest
    step false rest = rest

-- the runs of the pool without one are those of the queue without it
pub left-runs : (runs : List Held) (order : List RunId) (run : RunId) → IsPermutation (numbers runs) order
    → IsPermutation (numbers (without_run run runs)) (filter (λ other. not (other.0 == run.0)) order)
left-runs runs order run same =
    let others : RunId → Bool = λ other. not (other.0 == run.0) in
    subst (λ (rs : List RunId). IsPermutation rs (filter others order)) (sym (numbers-without run runs)) (IsPermutation-filter others (numbers runs) order same)
