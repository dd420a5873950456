-- The first of some runs with the greatest value, as one more run comes behind them.
use Rattle.std.proofs.Common.{◌≡◌, ◌≢◌, ◌<◌, ◌≤◌, ◌==◌, ◌||◌, ℕ, true, false, cond, List, [], ◌∷◌, ◌++◌, Option, None, Some, find, is_none, map, max, nat_lt, option_map, refl, sym, ap, ◌∙◌, arith, eq-eqb}
use Rattle.std.specs.List.{fold}
use Rattle.std.specs.Option.{option_or}
use Rattle.std.proofs.lemmas.Bool.{ltb-false, ltb-true, ne_eqb}
use Rattle.std.proofs.lemmas.List.{map-append}
use Rattle.std.proofs.lemmas.List.Folds.{find-append}
use Rattle.std.proofs.lemmas.List.Sums.{fold-append}
use Rattle.rulebook.specs.Campaign.{Run}
use Rattle.campaign_core.specs.Views.Tallies.{first_best, greatest}

-- a start is at most what comes of it
least : (a : ℕ) (values : List ℕ) → a ≤ fold max a values
least a [] = omega arith
least a (v ∷ values) =
    let rest = least (max a v) values in
    omega (arith, rest)

module _ (value : Run → ℕ) where
  -- no run has a value above all others
  none_above : (a m : ℕ) (runs : List Run) → fold max a (map value runs) < m → find (λ run. value run == m) runs ≡ None
  none_above a m [] less = refl
  none_above a m (run ∷ runs) less =
      let here = least (max a (value run)) (map value runs) in
      let other : value run ≢ m = omega (arith, here, less) in
      ap (λ t. cond t (Some run) (find (λ run. value run == m) runs)) (ne_eqb (value run) m other)
      ∙ none_above (max a (value run)) m runs less

  pub greatest-more : (runs : List Run) (run : Run) → greatest value (runs ++ run ∷ []) ≡ max (greatest value runs) (value run)
  greatest-more runs run =
      ap (fold max 0) (map-append value runs (run ∷ []))
      ∙ fold-append max 0 (map value runs) (value run ∷ [])

  more : (runs : List Run) (run : Run) → first_best value (runs ++ run ∷ [])
      ≡ option_or (find (λ other. value other == max (greatest value runs) (value run)) runs)
      (cond (value run == max (greatest value runs) (value run)) (Some run) None)
  more runs run =
      ap (λ m. find (λ other. value other == m) (runs ++ run ∷ [])) (greatest-more runs run)
      ∙ find-append (λ other. value other == max (greatest value runs) (value run)) runs (run ∷ [])

  -- the run that comes is better
  pub better : (runs : List Run) (run : Run) → greatest value runs < value run → first_best value (runs ++ run ∷ []) ≡ Some run
  better runs run less =
      let m = max (greatest value runs) (value run) in
      let below : greatest value runs < m = omega (arith, less) in
      let same : value run ≡ m = omega (arith, less) in
      more runs run
      ∙ ap (λ (o : Option Run). option_or o (cond (value run == m) (Some run) None)) (none_above 0 m runs below)
      ∙ ap (λ t. let o : Option Run = cond t (Some run) None in o) (eq-eqb (value run) m same)

  -- the run that comes is the first
  pub first : (run : Run) → first_best value (run ∷ []) ≡ Some run
  first run = ap (λ t. let o : Option Run = cond t (Some run) None in o) (eq-eqb (value run) (max 0 (value run)) (omega arith))

  -- the run that comes is no better
  pub no_better : (runs : List Run) (run best : Run) → first_best value runs ≡ Some best → value run ≤ greatest value runs
      → first_best value (runs ++ run ∷ []) ≡ Some best
  no_better runs run best is fits =
      let m = max (greatest value runs) (value run) in
      let same : m ≡ greatest value runs = omega (arith, fits) in
      more runs run
      ∙ ap (λ (o : Option Run). option_or o (cond (value run == m) (Some run) None)) (ap (λ n. find (λ other. value other == n) runs) same ∙ is)

  -- where there was no best run, or one with a lower value
  pub taken : {X : Type 0} (runs : List Run) (run : Run) (o : Option X) (g v : ℕ) → (is_none o || nat_lt g v) ≡ true
      → (o ≡ None → runs ≡ []) → g ≡ greatest value runs → v ≡ value run
      → (first_best value (runs ++ run ∷ []) ≡ Some run) × (v ≡ greatest value (runs ++ run ∷ []))
  taken runs run None g v test none g_is v_is =
      let empty : runs ≡ [] = none refl in
      let zero : greatest value runs ≡ 0 = ap (greatest value) empty in
      (ap (λ rs. first_best value (rs ++ run ∷ [])) empty ∙ first run, omega (arith, v_is, greatest-more runs run, zero))
  taken runs run (Some x) g v test none g_is v_is =
      let below : g < v = ltb-true g v test in
      (better runs run (omega (arith, below, g_is, v_is)), omega (arith, v_is, greatest-more runs run, below, g_is))

  -- where there was one with no lower value
  pub kept : {X : Type 0} (at : X → Option Run) (runs : List Run) (run : Run) (o : Option X) (g v : ℕ)
      → (is_none o || nat_lt g v) ≡ false → g ≡ greatest value runs → v ≡ value run
      → option_map at o ≡ option_map Some (first_best value runs)
      → (option_map at o ≡ option_map Some (first_best value (runs ++ run ∷ []))) × (g ≡ greatest value (runs ++ run ∷ []))
  kept at runs run None g v test g_is v_is same = cc test
  kept at runs run (Some x) g v test g_is v_is same =
      let above : v ≤ g = ltb-false g v test in
      (step (first_best value runs) refl same, omega (arith, greatest-more runs run, above, g_is, v_is))
    where
      step : (found : Option Run) → first_best value runs ≡ found → (let o : Option (Option Run) = Some (at x) in o) ≡ option_map Some found
          → (let o : Option (Option Run) = Some (at x) in o) ≡ option_map Some (first_best value (runs ++ run ∷ []))
      step None is same = cc same
      step (Some best) is same =
          let above : v ≤ g = ltb-false g v test in
          same ∙ ap (option_map Some) (sym (no_better runs run best is (omega (arith, above, g_is, v_is))))
