-- A run's place among the runs by number.
use Rattle.std.proofs.Common.{◌≡◌, ℕ, suc, ◌+◌, ◌<◌, Bool, true, false, cond, not, ◌||◌, ◌&&◌, eqb, List, [], ◌∷◌, get_or, slice_get, Option, Some, None, refl, sym, ap, ◌∙◌, arith}
use Rattle.std.specs.List.{All, position_or_len, remove}
use Rattle.std.proofs.lemmas.Bool.{false≢true}
use borrow.Author.Tests.{eqb-true}
use Rattle.std.proofs.lemmas.List.Elements.{All-tail}
use Rattle.decimal_rank.specs.declared.naming.DocId.{DocId}
use Rattle.decimal_rank.proofs.Lists.{pairs_head, pairs_tail}
use Rattle.decimal_rank.proofs.TruthValues.{eqb_above}
use Rattle.depth_pool.specs.declared.runs.RunId.{RunId}
use Rattle.depth_pool.specs.Holdings.{Held, AreByNumber, pool_docs, has_doc, has_run, pool_holds, without_run}

abbrev IsBelow : Held → Held → Type 0
IsBelow a b = a.run.0 < b.run.0

abbrev pub is_run : RunId → Held → Bool
is_run run held = eqb held.run.0 run.0

-- behind a run no other has its number
none_behind : (n : ℕ) (runs : List Held) → All (λ held. n < held.run.0) runs → (run : RunId) → run.0 ≡ n
    → (without_run run runs ≡ runs) × ((doc : DocId) → pool_holds runs run doc ≡ false)
none_behind n [] all run e = (refl, λ doc. refl)
none_behind n (held ∷ runs) all run e =
    let rest = none_behind n runs (All-tail (λ h. n < h.run.0) held runs all) run e in
    let other : eqb held.run.0 run.0 ≡ false = eqb_above held.run.0 run.0 (let up = all 0 held (omega arith) in omega arith) in (
      ap (λ t. cond (not t) (held ∷ without_run run runs) (without_run run runs)) other ∙ ap (λ z. held ∷ z) rest.0,
      λ doc. ap (λ t. (t && has_doc doc held.docs) || pool_holds runs run doc) other ∙ rest.1 doc,
    )

pub removed : (run : RunId) (runs : List Held) → AreByNumber runs → has_run run runs ≡ true
    → remove runs (position_or_len (is_run run) runs) ≡ without_run run runs
removed run [] by_number h = absurd (false≢true h)
removed run (held ∷ runs) by_number h = step (eqb held.run.0 run.0) refl (removed run runs (pairs_tail IsBelow held runs by_number)) h
  where
    step : (t : Bool) → eqb held.run.0 run.0 ≡ t → (has_run run runs ≡ true → remove runs (position_or_len (is_run run) runs) ≡ without_run run runs)
        → (t || has_run run runs) ≡ true
        → remove (held ∷ runs) (cond (not t) (1 + position_or_len (is_run run) runs) 0) ≡ cond (not t) (held ∷ without_run run runs) (without_run run runs)
    step true e later any = sym (none_behind held.run.0 runs (pairs_head IsBelow held runs by_number) run (sym (eqb-true _ _ e))).0
    step false e later any =
        ap (remove (held ∷ runs)) (let next : 1 + position_or_len (is_run run) runs ≡ suc (position_or_len (is_run run) runs) = omega arith in next)
        ∙ ap (λ z. held ∷ z) (later any)

-- what `get` gives at the index of a run
abbrev pub docs_found : Option Held → List DocId
docs_found None = []
docs_found (Some held) = held.docs

pub docs_looked_up : (run : RunId) (runs : List Held) → docs_found (slice_get runs (position_or_len (is_run run) runs)) ≡ pool_docs runs run
docs_looked_up run [] = refl
docs_looked_up run (held ∷ runs) = step (eqb held.run.0 run.0) (docs_looked_up run runs)
  where
    step : (t : Bool) → docs_found (slice_get runs (position_or_len (is_run run) runs)) ≡ pool_docs runs run
        → docs_found (slice_get (held ∷ runs) (cond (not t) (1 + position_or_len (is_run run) runs) 0)) ≡ cond t held.docs (pool_docs runs run)
    step true rest = refl
    step false rest =
        ap (λ i. docs_found (slice_get (held ∷ runs) i))
        (let next : 1 + position_or_len (is_run run) runs ≡ suc (position_or_len (is_run run) runs) = omega arith in next) ∙ rest

-- a run holds the documents that it is listed with
pub docs_held : (run : RunId) (runs : List Held) (doc : DocId) → AreByNumber runs → has_doc doc (pool_docs runs run) ≡ pool_holds runs run doc
docs_held run [] doc by_number = refl
docs_held run (held ∷ runs) doc by_number = step (eqb held.run.0 run.0) refl (docs_held run runs doc (pairs_tail IsBelow held runs by_number))
  where
    or_none : (b rest : Bool) → rest ≡ false → b ≡ (b || rest)
    or_none true rest e = refl
    or_none false rest e = sym e

    step : (t : Bool) → eqb held.run.0 run.0 ≡ t → has_doc doc (pool_docs runs run) ≡ pool_holds runs run doc
        → has_doc doc (cond t held.docs (pool_docs runs run)) ≡ ((t && has_doc doc held.docs) || pool_holds runs run doc)
    step true e later =
        or_none (has_doc doc held.docs) (pool_holds runs run doc)
        ((none_behind held.run.0 runs (pairs_head IsBelow held runs by_number) run (sym (eqb-true _ _ e))).1 doc)
    step false e later = later

pub docs_at : (run : RunId) (runs : List Held) (d : Held) (doc : DocId) → AreByNumber runs → has_run run runs ≡ true
    → has_doc doc (get_or runs (position_or_len (is_run run) runs) d).docs ≡ pool_holds runs run doc
docs_at run [] d doc by_number h = absurd (false≢true h)
docs_at run (held ∷ runs) d doc by_number h = step (eqb held.run.0 run.0) refl (docs_at run runs d doc (pairs_tail IsBelow held runs by_number)) h
  where
    or_none : (b rest : Bool) → rest ≡ false → b ≡ (b || rest)
    or_none true rest e = refl
    or_none false rest e = sym e

    step : (t : Bool) → eqb held.run.0 run.0 ≡ t
        → (has_run run runs ≡ true → has_doc doc (get_or runs (position_or_len (is_run run) runs) d).docs ≡ pool_holds runs run doc)
        → (t || has_run run runs) ≡ true
        → has_doc doc (get_or (held ∷ runs) (cond (not t) (1 + position_or_len (is_run run) runs) 0) d).docs
        ≡ ((t && has_doc doc held.docs) || pool_holds runs run doc)
    step true e later any =
        or_none (has_doc doc held.docs) (pool_holds runs run doc)
        ((none_behind held.run.0 runs (pairs_head IsBelow held runs by_number) run (sym (eqb-true _ _ e))).1 doc)
    step false e later any =
        ap (λ i. has_doc doc (get_or (held ∷ runs) i d).docs)
        (let next : 1 + position_or_len (is_run run) runs ≡ suc (position_or_len (is_run run) runs) = omega arith in next) ∙ later any
