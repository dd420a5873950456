-- What the lists of a topic cost, by their runs.
use Rattle.std.proofs.Common.{◌≡◌, ◌≢◌, ◌≤◌, ◌<◌, ◌+◌, ℕ, suc, zero, Bool, true, false, cond, List, [], ◌∷◌, Option, None, Some, get_or, length, refl, sym, ap, ◌∙◌, arith, eq-eqb, eqb-true}
use Rattle.std.specs.Prelude.{All, Contains, find, sum_by}
use Rattle.std.specs.Option.{option_map}
use Rattle.std.proofs.lemmas.List.Elements.{All-cons, All-head, All-tail}
use Rattle.std.proofs.lemmas.List.Sums.{sum_by-cons}
use Rattle.decimal_rank.specs.declared.naming.DocId.{DocId}
use Rattle.depth_pool.specs.declared.runs.RunId.{RunId}
use Rattle.score_index.specs.KeptBoards.{AreByRun}
use Rattle.score_index.specs.Scores.{ScoreList, is_of_run, list_steps}

-- the documents of a run's list among these
abbrev pub docs_among : List ScoreList → RunId → Option (List DocId)
docs_among lists run = option_map (λ list. list.docs) (find (is_of_run run) lists)

abbrev pub steps_among : List ScoreList → RunId → ℕ
steps_among lists run = list_steps (docs_among lists run)

-- ---- sums

sum-more : {X : Type 0} (f h : X → ℕ) (more : ℕ) (xs : List X) (k : ℕ) (d : X) → ((x : X) → f x ≤ h x)
    → k < length xs → f (get_or xs k d) + more ≤ h (get_or xs k d)
    → sum_by f xs + more ≤ sum_by h xs
sum-more f h more [] k d least within here = absurd (omega (arith, within))
sum-more f h more (x ∷ xs) zero d least within here =
    omega (arith, sum_by-cons f x xs, sum_by-cons h x xs, here, sum-least xs)
  where
    sum-least : (xs : List _) → sum_by f xs ≤ sum_by h xs
    sum-least [] = omega arith
    sum-least (x ∷ xs) = omega (arith, sum_by-cons f x xs, sum_by-cons h x xs, least x, sum-least xs)
sum-more f h more (x ∷ xs) (suc k) d least within here =
    omega (arith, sum_by-cons f x xs, sum_by-cons h x xs, least x, sum-more f h more xs k d least (omega (arith, within)) here)

-- ---- the lists of a topic

-- the run of each list is among the runs that have one
runs_have : (runs : List RunId) (lists : List ScoreList) → ((run : RunId) (docs : List DocId) → docs_among lists run ≡ Some docs → Contains runs run)
    → All (λ list. Contains runs list.run) lists
runs_have runs [] has = λ k d within. absurd (omega (arith, within))
runs_have runs (list ∷ lists) has =
    All-cons (λ one. Contains runs one.run) list lists
    (has list.run list.docs
    (ap (λ t. option_map (λ (one : ScoreList). one.docs) (cond t (Some list) (find (is_of_run list.run) lists))) (eq-eqb list.run.0 list.run.0 refl)))
    (runs_have runs lists (λ run docs is. step run docs (is_of_run run list) is (has run)))
  where
    step : (run : RunId) (docs : List DocId) (t : Bool) → docs_among lists run ≡ Some docs
        → ((docs : List DocId) → option_map (λ (one : ScoreList). one.docs) (cond t (Some list) (find (is_of_run run) lists)) ≡ Some docs → Contains runs run)
        → Contains runs run
    step run docs true is has = has list.docs refl
    step run docs false is has = has docs is

-- a run that is none of the others has no list among theirs
none_among : (run : RunId) (lists : List ScoreList) → All (λ list. run.0 ≢ list.run.0) lists → docs_among lists run ≡ None
none_among run [] others = refl
none_among run (list ∷ lists) others = step (is_of_run run list) refl (none_among run lists (All-tail (λ one. run.0 ≢ one.run.0) list lists others))
  where
    step : (t : Bool) → is_of_run run list ≡ t → docs_among lists run ≡ None
        → option_map (λ (one : ScoreList). one.docs) (cond t (Some list) (find (is_of_run run) lists)) ≡ None
    step true is rest = absurd (All-head (λ one. run.0 ≢ one.run.0) list lists others (sym (eqb-true list.run.0 run.0 is)))
    step false is rest = rest

-- where no run has two, as where they ascend by run, the lists take no more steps than the runs' lists do
pub lists_within : (runs : List RunId) (lists : List ScoreList) → AreByRun lists
    → ((run : RunId) (docs : List DocId) → docs_among lists run ≡ Some docs → Contains runs run)
    → sum_by (λ list. list_steps (Some list.docs)) lists ≤ sum_by (steps_among lists) runs
lists_within runs lists ordered has = by_runs lists ordered (runs_have runs lists has)
  where
    by_runs : (lists : List ScoreList) → AreByRun lists → All (λ list. Contains runs list.run) lists
        → sum_by (λ list. list_steps (Some list.docs)) lists ≤ sum_by (steps_among lists) runs
    by_runs [] ordered among = omega arith
    by_runs (list ∷ lists) ordered among =
        let others : All (λ one. list.run.0 ≢ one.run.0) lists = λ k d within. let less = ordered zero (suc k) d (omega arith) (omega (arith, within)) in
        omega (arith, less) in
        let rest = by_runs lists (λ i j d less within. ordered (suc i) (suc j) d (omega (arith, less)) (omega (arith, within)))
        (All-tail (λ one. Contains runs one.run) list lists among) in
        let at = All-head (λ one. Contains runs one.run) list lists among in
        let none : steps_among lists list.run ≡ 0 = ap list_steps (none_among list.run lists others) in
        let own : steps_among (list ∷ lists) list.run ≡ list_steps (Some list.docs) =
        ap (λ t. list_steps (option_map (λ (one : ScoreList). one.docs) (cond t (Some list) (find (is_of_run list.run) lists))))
        (eq-eqb list.run.0 list.run.0 refl) in
        let there_was = ap (steps_among lists) at.2 in
        let there_is = ap (steps_among (list ∷ lists)) at.2 in
        let more = sum-more (steps_among lists) (steps_among (list ∷ lists)) (list_steps (Some list.docs)) runs at.0 list.run
        (least others) at.1 (omega (arith, none, own, there_was, there_is)) in
        omega (arith, sum_by-cons (λ (one : ScoreList). list_steps (Some one.docs)) list lists, rest, more)
      where
        least : All (λ one. list.run.0 ≢ one.run.0) lists → (run : RunId) → steps_among lists run ≤ steps_among (list ∷ lists) run
        least others run = step (is_of_run run list) refl
          where
            step : (t : Bool) → is_of_run run list ≡ t
                → steps_among lists run ≤ list_steps (option_map (λ (one : ScoreList). one.docs) (cond t (Some list) (find (is_of_run run) lists)))
            step true is =
                let same : run ≡ list.run = ap (λ n. let r : RunId = record { 0 = n } in r) (sym (eqb-true list.run.0 run.0 is)) in
                let none : steps_among lists run ≡ 0 = ap (steps_among lists) same ∙ ap list_steps (none_among list.run lists others) in
                omega (arith, none)
            step false is = omega arith
