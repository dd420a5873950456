-- The holders of a document are the live runs that hold it.
use Rattle.std.proofs.Common.{◌≡◌, ◌∙◌, ℕ, zero, suc, ◌+◌, ◌<◌, Bool, true, false, not, List, [], ◌∷◌, Option, Some, filter, refl, subst, sym, ap, arith}
use Rattle.std.specs.Prelude.{cond, slice_get}
use Rattle.std.specs.List.{enumerate_from}
use Rattle.std.proofs.lemmas.Bool.{not-true}
use Rattle.rulebook.specs.Campaign.{History, Run, is_withdrawn, numbered_runs, run_holds, runs}
use Rattle.rulebook.specs.Judgements.Holders.{AreHolders, IsHolder, holders}
use Rattle.rulebook.specs.Words.{Text}

abbrev Numbered : Type 0
Numbered = ℕ × Run

abbrev Ascend : List Numbered → Type 0
Ascend found = (place later : ℕ) (run next : Numbered) → place < later → slice_get found place ≡ Some run → slice_get found later ≡ Some next → run.0 < next.0

-- A run that is left of some stood among them.
record Passed (p : Numbered → Bool) (all : List Numbered) (run : Numbered) : Type 0 where
  place : ℕ
  stood : slice_get all place ≡ Some run
  passes : p run ≡ true

module _ (p : Numbered → Bool) where
  passed : (all : List Numbered) (run : Numbered) (place : ℕ) → slice_get (filter p all) place ≡ Some run → Passed p all run
  passed [] run place is = absurd (cc is)
  passed (first ∷ others) run place is = step (p first) refl (passed others run) place is
    where
      behind : Passed p others run → Passed p (first ∷ others) run
      behind found = record { place = suc found.place; stood = found.stood; passes = found.passes }

      step : (t : Bool) → p first ≡ t → ((place : ℕ) → slice_get (filter p others) place ≡ Some run → Passed p others run)
          → (place : ℕ) → slice_get (cond t (first ∷ filter p others) (filter p others)) place ≡ Some run → Passed p (first ∷ others) run
      step true here rest zero is = let same : first ≡ run = cc is in record { place = zero; stood = is; passes = ap p (sym same) ∙ here }
      step true here rest (suc place) is = behind (rest place is)
      step false here rest place is = behind (rest place is)

  kept : (all : List Numbered) (run : Numbered) (place : ℕ) → slice_get all place ≡ Some run → p run ≡ true
      → (later : ℕ) × (slice_get (filter p all) later ≡ Some run)
  kept [] run place is passes = absurd (cc is)
  kept (first ∷ others) run zero is passes = let same : first ≡ run = cc is in let here : p first ≡ true = ap p same ∙ passes in rw here (zero, is)
  kept (first ∷ others) run (suc place) is passes = step (p first) (kept others run place is passes)
    where
      step : (t : Bool) → ((later : ℕ) × (slice_get (filter p others) later ≡ Some run))
          → (later : ℕ) × (slice_get (cond t (first ∷ filter p others) (filter p others)) later ≡ Some run)
      step true found = (suc found.0, found.1)
      step false found = found

  ascend_left : (all : List Numbered) → Ascend all → Ascend (filter p all)
  ascend_left [] ascend = ascend
  ascend_left (first ∷ others) ascend =
      step (p first) (ascend_left others (λ place later run next below is then. ascend (suc place) (suc later) run next (omega arith) is then))
    where
      step : (t : Bool) → Ascend (filter p others) → Ascend (cond t (first ∷ filter p others) (filter p others))
      step true rest zero zero run next below is then = absurd (omega arith)
      step true rest zero (suc later) run next below is then =
          let found = passed others next later then in ascend zero (suc found.place) run next (omega arith) is found.stood
      step true rest (suc place) zero run next below is then = absurd (omega arith)
      step true rest (suc place) (suc later) run next below is then = rest place later run next (omega arith) is then
      step false rest place later run next below is then = rest place later run next below is then

-- Runs by their places.
record IsNumbered (n : ℕ) (all : List Run) (place : ℕ) (run : Numbered) : Type 0 where
  number : run.0 ≡ n + place
  stood : slice_get all place ≡ Some run.1

number_of : (n : ℕ) (all : List Run) (place : ℕ) (run : Numbered) → slice_get (enumerate_from n all) place ≡ Some run → IsNumbered n all place run
number_of n [] place run is = absurd (cc is)
number_of n (first ∷ others) zero run is =
    let placed : Numbered = (n, first) in
    let same : placed ≡ run = cc is in
    let number : placed.0 ≡ run.0 = ap (λ (r : Numbered). r.0) same in
    record { number = omega (arith, number); stood = ap (λ (r : Numbered). Some r.1) same }
number_of n (first ∷ others) (suc place) run is =
    let found = number_of (n + 1) others place run is in record { number = omega (arith, found.number); stood = found.stood }

numbered_at : (n : ℕ) (all : List Run) (place : ℕ) (run : Numbered) → run.0 ≡ n + place
    → slice_get all place ≡ Some run.1 → slice_get (enumerate_from n all) place ≡ Some run
numbered_at n [] place run same is = absurd (cc is)
numbered_at n (first ∷ others) zero run same is =
    let placed : ℕ → Run → Option Numbered = λ number r. Some (number, r) in
    let number : n ≡ run.0 = omega arith in
    let stood : first ≡ run.1 = cc is in
    ap (λ (k : ℕ). placed k first) number ∙ ap (λ (r : Run). placed run.0 r) stood
numbered_at n (first ∷ others) (suc place) run same is = numbered_at (n + 1) others place run (omega arith) is

module _ (H : History) (topic doc : Text) where
  abbrev is_live : Numbered → Bool
  is_live run = not (is_withdrawn H run.1.name)

  abbrev is_holding : Numbered → Bool
  is_holding run = run_holds H topic run.1 doc

  holder_at : (run : Numbered) (place : ℕ) → slice_get (holders H topic doc) place ≡ Some run → IsHolder H topic doc run
  holder_at run place is =
      let holding = passed is_holding (numbered_runs H) run place is in
      let living = passed is_live (enumerate_from 0 (runs H)) run holding.place holding.stood in
      let submitted = number_of 0 (runs H) living.place run living.stood in
      let here : living.place ≡ run.0 = omega (arith, submitted.number) in
      record {
        submitted = subst (λ (n : ℕ). slice_get (runs H) n ≡ Some run.1) here submitted.stood;
        stays = not-true (is_withdrawn H run.1.name) living.passes;
        holds_it = holding.passes;
      }

  place_of : (run : Numbered) → IsHolder H topic doc run → (place : ℕ) × (slice_get (holders H topic doc) place ≡ Some run)
  place_of run holder =
      let living = kept is_live (enumerate_from 0 (runs H)) run run.0 (numbered_at 0 (runs H) run.0 run (omega arith) holder.submitted) (ap not holder.stays) in
      kept is_holding (numbered_runs H) run living.0 living.1 holder.holds_it

  ascending : Ascend (enumerate_from 0 (runs H))
  ascending place later run next below is then =
      let first = number_of 0 (runs H) place run is in
      let second = number_of 0 (runs H) later next then in
      omega (arith, first.number, second.number)

  pub holders_are : AreHolders H topic doc (holders H topic doc)
  holders_are = record {
    are = λ run. (λ found. holder_at run found.0 found.1, place_of run);
    ascend = ascend_left is_holding (numbered_runs H) (ascend_left is_live (enumerate_from 0 (runs H)) ascending);
  }
