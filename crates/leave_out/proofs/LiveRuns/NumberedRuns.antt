-- The live runs by their numbers.
use Rattle.std.proofs.Common.{◌≡◌, ◌+◌, ◌<◌, ◌∙◌, ℕ, zero, suc, Bool, true, false, cond, not, List, [], ◌∷◌, Option, Some, IsSome, ap, arith, filter, get_or, length, map, refl, subst, sym}
use Rattle.std.specs.Prelude.{All, slice_get}
use Rattle.std.specs.List.{enumerate_from}
use Rattle.std.proofs.lemmas.Bool.{not-true}
use Rattle.std.proofs.lemmas.List.Elements.{All-cons}
use Rattle.decimal_rank.specs.declared.naming.DocId.{DocId}
use Rattle.depth_pool.specs.Holdings.{Held, has_doc, holders_of}
use Rattle.depth_pool.specs.declared.runs.RunId.{RunId}
use Rattle.rulebook.specs.Campaign.{History, Run, is_withdrawn, numbered_runs, runs}
use Rattle.rulebook.specs.Words.{Text}
use Rattle.campaign_core.specs.Views.Tallies.{submitted_at}
use Rattle.campaign_core.specs.Assessments.Topics.{held_of, pool_of}
use Rattle.campaign_core.proofs.Lists.Elements.{Each}

-- what holds of each that passes, where it holds of each
pub each-filter : {X : Type 0} (P : X → Type 0) (p : X → Bool) (xs : List X) → Each (λ x. p x ≡ true → P x) xs → Each P (filter p xs)
each-filter P p [] all = tt
each-filter P p (x ∷ xs) all = step (p x) refl (each-filter P p xs all.1)
  where
    step : (t : Bool) → p x ≡ t → Each P (filter p xs) → Each P (cond t (x ∷ filter p xs) (filter p xs))
    step true is rest = (all.0 is, rest)
    step false is rest = rest

-- a run stands at its number
module _ (H : History) (P : ℕ × Run → Type 0)
    (known : (n : ℕ) (run : Run) → slice_get (runs H) n ≡ Some run → is_withdrawn H run.name ≡ false → P (n, run)) where
  placed : (n : ℕ) (rs : List Run) → ((k : ℕ) → slice_get (runs H) (n + k) ≡ slice_get rs k)
      → Each (λ p. not (is_withdrawn H p.1.name) ≡ true → P p) (enumerate_from n rs)
  placed n [] at = tt
  placed n (run ∷ rs) at =
      let first : n + 0 ≡ n = omega arith in (
        λ lives. known n run (ap (slice_get (runs H)) (sym first) ∙ at 0) (not-true (is_withdrawn H run.name) lives),
        placed (n + 1) rs (λ k. ap (slice_get (runs H)) (let next : n + 1 + k ≡ n + suc k = omega arith in next) ∙ at (suc k)),
      )

  -- what holds of each submitted run that stays holds of each live run
  pub each-numbered : Each P (numbered_runs H)
  each-numbered = each-filter P (λ p. not (is_withdrawn H p.1.name)) (enumerate_from 0 (runs H))
      (placed 0 (runs H) (λ k. ap (slice_get (runs H)) (let start : 0 + k ≡ k = omega arith in start)))

-- the runs of a pool that hold a document were submitted
pub holders-submitted : (H : History) (topic : Text) (doc : DocId) → All (λ run. IsSome (submitted_at H run)) (holders_of doc (pool_of H topic))
holders-submitted H topic doc = among (numbered_runs H) (each-numbered H Submitted (λ n run there lives. subst (λ (o : Option Run). IsSome o) (sym there) refl))
  where
    Submitted : ℕ × Run → Type 0
    Submitted p = IsSome (slice_get (runs H) p.0)

    passes : Held → Bool
    passes one = has_doc doc one.docs

    among : (ps : List (ℕ × Run)) → Each Submitted ps → All (λ run. IsSome (submitted_at H run)) (holders_of doc (map (held_of H topic) ps))
    among [] all = λ k d within. absurd (omega (arith, within))
    among (p ∷ ps) all = step (passes (held_of H topic p)) (among ps all.1)
      where
        run_of : Held → RunId
        run_of one = one.run

        later : List Held
        later = filter passes (map (held_of H topic) ps)

        step : (t : Bool) → All (λ run. IsSome (submitted_at H run)) (map run_of later)
            → All (λ run. IsSome (submitted_at H run)) (map run_of (cond t (held_of H topic p ∷ later) later))
        step true rest = All-cons (λ run. IsSome (submitted_at H run)) (record { 0 = p.0 }) (map run_of later) all.0 rest
        step false rest = rest

pub each-at : {X : Type 0} (P : X → Type 0) (xs : List X) (i : ℕ) (d : X) → i < length xs → Each P xs → P (get_or xs i d)
each-at P [] i d within all = absurd (omega (arith, within))
each-at P (x ∷ xs) zero d within all = all.0
each-at P (x ∷ xs) (suc i) d within all = each-at P xs i d (omega (arith, within)) all.1
