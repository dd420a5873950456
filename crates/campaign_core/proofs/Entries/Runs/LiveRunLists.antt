-- The live runs without their numbers.
use Rattle.std.proofs.Common.{◌≡◌, ◌<◌, ◌+◌, ℕ, Bool, true, false, cond, not, List, ◌++◌, ◌∷◌, [], filter, get_or, length, map, take, refl, ap, ◌∙◌}
use Rattle.std.specs.List.{enumerate_from}
use Rattle.std.proofs.lemmas.List.{append-nil, take_more}
use Rattle.std.proofs.lemmas.List.Elements.{filter-append}
use Rattle.rulebook.specs.Words.{Text}
use Rattle.rulebook.specs.Campaign.{History, Run, is_withdrawn, live, runs}

abbrev pub live_of : History → List Run → List Run
live_of H rs = filter (λ run. not (is_withdrawn H run.name)) rs

numbers-dropped : (away : Text → Bool) (k : ℕ) (rs : List Run)
    → map (λ p. p.1) (filter (λ p. not (away p.1.name)) (enumerate_from k rs)) ≡ filter (λ run. not (away run.name)) rs
numbers-dropped away k [] = refl
numbers-dropped away k (r ∷ rs) = step (away r.name) (numbers-dropped away (k + 1) rs)
  where
    rest : List (ℕ × Run)
    rest = filter (λ p. not (away p.1.name)) (enumerate_from (k + 1) rs)

    step : (t : Bool) → map (λ (p : ℕ × Run). p.1) rest ≡ filter (λ (run : Run). not (away run.name)) rs
        → map (λ (p : ℕ × Run). p.1) (cond (not t) ((k, r) ∷ rest) rest)
        ≡ cond (not t) (r ∷ filter (λ (run : Run). not (away run.name)) rs) (filter (λ (run : Run). not (away run.name)) rs)
    step true same = same
    step false same = ap (λ rs. r ∷ rs) same

pub live-runs : (H : History) → live H ≡ live_of H (runs H)
live-runs H = numbers-dropped (is_withdrawn H) 0 (runs H)

-- one more run that is withdrawn, or that is live

pub live-passed : (H : History) (n : ℕ) (d : Run) → n < length (runs H)
    → is_withdrawn H (get_or (runs H) n d).name ≡ true → live_of H (take (n + 1) (runs H)) ≡ live_of H (take n (runs H))
live-passed H n d within away =
    ap (live_of H) (take_more (runs H) n d within)
    ∙ filter-append (λ (run : Run). not (is_withdrawn H run.name)) (take n (runs H)) (get_or (runs H) n d ∷ [])
    ∙ ap (λ t. live_of H (take n (runs H)) ++ cond (not t) (get_or (runs H) n d ∷ []) []) away
    ∙ append-nil (live_of H (take n (runs H)))

pub live-taken : (H : History) (n : ℕ) (d : Run) → n < length (runs H)
    → is_withdrawn H (get_or (runs H) n d).name ≡ false
    → live_of H (take (n + 1) (runs H)) ≡ live_of H (take n (runs H)) ++ get_or (runs H) n d ∷ []
live-taken H n d within stays =
    ap (live_of H) (take_more (runs H) n d within)
    ∙ filter-append (λ (run : Run). not (is_withdrawn H run.name)) (take n (runs H)) (get_or (runs H) n d ∷ [])
    ∙ ap (λ t. live_of H (take n (runs H)) ++ cond (not t) (get_or (runs H) n d ∷ []) []) stays
