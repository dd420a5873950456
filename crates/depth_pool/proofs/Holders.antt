-- The holders of a document, as runs come and go.
use Rattle.std.proofs.Common.{◌≡◌, ◌≢◌, ℕ, suc, ◌<◌, Bool, true, false, cond, not, ◌||◌, ◌&&◌, nat_lt, ltb, eqb, List, [], ◌∷◌, ◌++◌, length, map, filter, refl, sym, ap, ◌∙◌, arith}
use Rattle.std.specs.List.{list_any, All, AllPairs}
use Rattle.std.proofs.lemmas.Bool.{false≢true, or_parts}
use Rattle.std.proofs.lemmas.Bool.Decides.{nat_tests}
use Rattle.std.proofs.lemmas.List.Elements.{All-cons, All-tail}
use Rattle.std.proofs.lemmas.List.Kept.{AllPairs-cons, AllPairs-filter}
use borrow.Author.Tests.{lt-ltb, ltb-true}
use Rattle.decimal_rank.specs.declared.naming.DocId.{DocId}
use Rattle.decimal_rank.proofs.TruthValues.{eqb_itself}
use Rattle.decimal_rank.proofs.Lists.{pairs_head, pairs_tail}
use Rattle.depth_pool.specs.declared.runs.RunId.{RunId}
use Rattle.depth_pool.specs.Holdings.{Held, AreByNumber, KeepsOthers, has_doc, has_run, holders_of, pool_holds, some_run_holds, with_run, without_run}
use Rattle.depth_pool.specs.Index.{with_holder, without_holder}
use Rattle.depth_pool.proofs.Lists.{all_put, any_put, any_filter}

abbrev IsBelow : Held → Held → Type 0
IsBelow a b = a.run.0 < b.run.0

holders-cons : (doc : DocId) (held : Held) (runs : List Held)
    → holders_of doc (held ∷ runs) ≡ cond (has_doc doc held.docs) (held.run ∷ holders_of doc runs) (holders_of doc runs)
holders-cons doc held runs = step (has_doc doc held.docs)
  where
    step : (t : Bool) → map (λ h. h.run) (cond t (held ∷ filter (λ h. has_doc doc h.docs) runs) (filter (λ h. has_doc doc h.docs) runs))
        ≡ cond t (held.run ∷ holders_of doc runs) (holders_of doc runs)
    step true = refl
    step false = refl

holders_above : (doc : DocId) (n : ℕ) (runs : List Held) → All (λ held. n < held.run.0) runs → All (λ run. n < run.0) (holders_of doc runs)
holders_above doc n [] all = λ k d h. absurd (omega arith)
holders_above doc n (held ∷ runs) all =
    rw (holders-cons doc held runs) (step (holders_above doc n runs (All-tail (λ h. n < h.run.0) held runs all)) (has_doc doc held.docs))
  where
    step : All (λ run. n < run.0) (holders_of doc runs) → (t : Bool) → All (λ run. n < run.0) (cond t (held.run ∷ holders_of doc runs) (holders_of doc runs))
    step rest true = All-cons (λ run. n < run.0) held.run (holders_of doc runs) (all 0 held (omega arith)) rest
    step rest false = rest

-- the holders ascend
pub holders_ascend : (doc : DocId) (runs : List Held) → AreByNumber runs → AllPairs (λ a b. a.0 < b.0) (holders_of doc runs)
holders_ascend doc [] by_number = λ i j d h lt. absurd (omega arith)
holders_ascend doc (held ∷ runs) by_number = rw (holders-cons doc held runs)
    (step (holders_ascend doc runs (pairs_tail IsBelow held runs by_number))
    (holders_above doc held.run.0 runs (pairs_head IsBelow held runs by_number)) (has_doc doc held.docs))
  where
    step : AllPairs (λ a b. a.0 < b.0) (holders_of doc runs) → All (λ run. held.run.0 < run.0) (holders_of doc runs)
        → (t : Bool) → AllPairs (λ a b. a.0 < b.0) (cond t (held.run ∷ holders_of doc runs) (holders_of doc runs))
    step rest above true = AllPairs-cons (λ a b. a.0 < b.0) held.run (holders_of doc runs) above rest
    step rest above false = rest

-- ---- one more run

at_front : (run : RunId) (holders : List RunId) → All (λ other. run.0 < other.0) holders → with_holder run holders ≡ run ∷ holders
at_front run [] all = refl
at_front run (other ∷ holders) all = ap (λ t. cond t (run ∷ other ∷ holders) (other ∷ with_holder run holders)) (lt-ltb _ _ (all 0 other (omega arith)))

above_all : (n : ℕ) (held : Held) (runs : List Held) → AreByNumber (held ∷ runs) → n < held.run.0 → All (λ other. n < other.run.0) (held ∷ runs)
above_all n held runs by_number h =
    All-cons (λ other. n < other.run.0) held runs h (λ k d lt. let up = pairs_head IsBelow held runs by_number k d lt in omega arith)

pub holders-with_run : (doc : DocId) (new : Held) (runs : List Held) → AreByNumber runs
    → holders_of doc (with_run new runs) ≡ cond (has_doc doc new.docs) (with_holder new.run (holders_of doc runs)) (holders_of doc runs)
holders-with_run doc new [] by_number = holders-cons doc new []
holders-with_run doc new (held ∷ runs) by_number =
    step (holders-with_run doc new runs (pairs_tail IsBelow held runs by_number)) (nat_lt new.run.0 held.run.0) refl
  where
    join : (mine here : Bool) (holders : List RunId) → with_holder new.run (held.run ∷ holders) ≡ held.run ∷ with_holder new.run holders
        → cond here (held.run ∷ cond mine (with_holder new.run holders) holders) (cond mine (with_holder new.run holders) holders)
        ≡ cond mine (with_holder new.run (cond here (held.run ∷ holders) holders)) (cond here (held.run ∷ holders) holders)
    join true true holders e = sym e
    join true false holders e = refl
    join false true holders e = refl
    join false false holders e = refl

    step : holders_of doc (with_run new runs) ≡ cond (has_doc doc new.docs) (with_holder new.run (holders_of doc runs)) (holders_of doc runs)
        → (t : Bool) → nat_lt new.run.0 held.run.0 ≡ t
        → holders_of doc (cond t (new ∷ held ∷ runs) (held ∷ with_run new runs))
        ≡ cond (has_doc doc new.docs) (with_holder new.run (holders_of doc (held ∷ runs))) (holders_of doc (held ∷ runs))
    step rest true e =
        holders-cons doc new (held ∷ runs)
        ∙ ap (λ z. cond (has_doc doc new.docs) z (holders_of doc (held ∷ runs)))
        (sym (at_front new.run (holders_of doc (held ∷ runs))
        (holders_above doc new.run.0 (held ∷ runs) (above_all new.run.0 held runs by_number (ltb-true _ _ e)))))
    step rest false e =
        holders-cons doc held (with_run new runs) ∙ ap (λ z. cond (has_doc doc held.docs) (held.run ∷ z) z) rest
        ∙ join (has_doc doc new.docs) (has_doc doc held.docs) (holders_of doc runs)
        (ap (λ t. cond t (new.run ∷ held.run ∷ holders_of doc runs) (held.run ∷ with_holder new.run (holders_of doc runs))) e)
        ∙ ap (λ z. cond (has_doc doc new.docs) (with_holder new.run z) z) (sym (holders-cons doc held runs))

above_or_below : (m n : ℕ) → nat_lt m n ≡ false → eqb n m ≡ false → n < m
above_or_below m n h e = grind (arith, nat_tests)

pub by_number-with_run : (new : Held) (runs : List Held) → AreByNumber runs → has_run new.run runs ≡ false → AreByNumber (with_run new runs)
by_number-with_run new [] by_number fresh = AllPairs-cons IsBelow new [] (λ k d h. absurd (omega arith)) by_number
by_number-with_run new (held ∷ runs) by_number fresh =
    let apart = or_parts (eqb held.run.0 new.run.0) (has_run new.run runs) fresh in
    step (by_number-with_run new runs (pairs_tail IsBelow held runs by_number) apart.1) apart.0 (nat_lt new.run.0 held.run.0) refl
  where
    step : AreByNumber (with_run new runs) → eqb held.run.0 new.run.0 ≡ false → (t : Bool) → nat_lt new.run.0 held.run.0 ≡ t
        → AreByNumber (cond t (new ∷ held ∷ runs) (held ∷ with_run new runs))
    step rest apart true e = AllPairs-cons IsBelow new (held ∷ runs) (above_all new.run.0 held runs by_number (ltb-true _ _ e)) by_number
    step rest apart false e = AllPairs-cons IsBelow held (with_run new runs)
        (all_put (IsBelow held) (λ other. nat_lt new.run.0 other.run.0) new runs (above_or_below new.run.0 held.run.0 e apart)
        (pairs_head IsBelow held runs by_number)) rest

-- ---- one run less

pub holders-without_run : (doc : DocId) (run : RunId) (runs : List Held) → holders_of doc (without_run run runs) ≡ without_holder run (holders_of doc runs)
holders-without_run doc run [] = refl
holders-without_run doc run (held ∷ runs) = step (holders-without_run doc run runs)
  where
    left : (keeps : Bool) (rest : List Held) → holders_of doc (cond keeps (held ∷ rest) rest)
        ≡ cond keeps (cond (has_doc doc held.docs) (held.run ∷ holders_of doc rest) (holders_of doc rest)) (holders_of doc rest)
    left true rest = holders-cons doc held rest
    left false rest = refl

    table : (keeps here : Bool) (rest : List RunId) → cond keeps (cond here (held.run ∷ rest) rest) rest ≡ cond here (cond keeps (held.run ∷ rest) rest) rest
    table true true rest = refl
    table true false rest = refl
    table false true rest = refl
    table false false rest = refl

    right : (here : Bool) → without_holder run (cond here (held.run ∷ holders_of doc runs) (holders_of doc runs))
        ≡ cond here (cond (not (eqb held.run.0 run.0)) (held.run ∷ without_holder run (holders_of doc runs)) (without_holder run (holders_of doc runs)))
        (without_holder run (holders_of doc runs))
    right true = refl
    right false = refl

    step : holders_of doc (without_run run runs) ≡ without_holder run (holders_of doc runs)
        → holders_of doc (without_run run (held ∷ runs)) ≡ without_holder run (holders_of doc (held ∷ runs))
    step rest =
        left (not (eqb held.run.0 run.0)) (without_run run runs)
        ∙ ap (λ z. cond (not (eqb held.run.0 run.0)) (cond (has_doc doc held.docs) (held.run ∷ z) z) z) rest
        ∙ table (not (eqb held.run.0 run.0)) (has_doc doc held.docs) (without_holder run (holders_of doc runs))
        ∙ sym (right (has_doc doc held.docs)) ∙ ap (without_holder run) (sym (holders-cons doc held runs))

-- a run that doesn't hold the document isn't among its holders
not_holder : (doc : DocId) (run : RunId) (runs : List Held) → pool_holds runs run doc ≡ false → without_holder run (holders_of doc runs) ≡ holders_of doc runs
not_holder doc run [] h = refl
not_holder doc run (held ∷ runs) h =
    rw (holders-cons doc held runs) (step (eqb held.run.0 run.0) refl (has_doc doc held.docs) (pool_holds runs run doc) h (not_holder doc run runs))
  where
    step : (mine : Bool) → eqb held.run.0 run.0 ≡ mine → (here rest : Bool) → ((mine && here) || rest) ≡ false
        → (rest ≡ false → without_holder run (holders_of doc runs) ≡ holders_of doc runs)
        → without_holder run (cond here (held.run ∷ holders_of doc runs) (holders_of doc runs))
        ≡ cond here (held.run ∷ holders_of doc runs) (holders_of doc runs)
    step true e true rest h later = absurd (false≢true (sym h))
    step true e false rest h later = later h
    step false e true rest h later = ap (λ t. cond (not t) (held.run ∷ without_holder run (holders_of doc runs)) (without_holder run (holders_of doc runs))) e
        ∙ ap (λ z. held.run ∷ z) (later h)
    step false e false rest h later = later h

-- the holders once the run is taken from each document that it held
pub holders_left : (doc : DocId) (run : RunId) (runs : List Held) (held : Bool) → held ≡ pool_holds runs run doc
    → cond held (without_holder run (holders_of doc runs)) (holders_of doc runs) ≡ holders_of doc (without_run run runs)
holders_left doc run runs true e = sym (holders-without_run doc run runs)
holders_left doc run runs false e = sym (not_holder doc run runs (sym e)) ∙ sym (holders-without_run doc run runs)

pub by_number-without_run : (run : RunId) (runs : List Held) → AreByNumber runs → AreByNumber (without_run run runs)
by_number-without_run run runs by_number = AllPairs-filter IsBelow (λ held. not (eqb held.run.0 run.0)) runs by_number

-- ---- the other runs

number_apart : (a b : RunId) → a ≢ b → eqb b.0 a.0 ≡ false
number_apart a b h = different (λ e. h (ap (λ (n : ℕ). let r : RunId = record { 0 = n } in r) (sym e)))
  where
    different : (b.0 ≢ a.0) → eqb b.0 a.0 ≡ false
    different h = grind (arith, nat_tests)

pub others-with_run : (new : Held) (runs : List Held) → KeepsOthers runs (with_run new runs) new.run
others-with_run new runs = record {
  in_pool = λ other apart.
      any_put (λ (held : Held). eqb held.run.0 other.0) (λ held. nat_lt new.run.0 held.run.0) new runs
      ∙ ap (λ t. t || has_run other runs) (number_apart other new.run apart);
  holdings = λ other doc apart.
      any_put (λ (held : Held). eqb held.run.0 other.0 && has_doc doc held.docs) (λ held. nat_lt new.run.0 held.run.0) new runs
      ∙ ap (λ t. (t && has_doc doc new.docs) || pool_holds runs other doc) (number_apart other new.run apart);
}

pub in_with_run : (new : Held) (runs : List Held) → has_run new.run (with_run new runs) ≡ true
in_with_run new runs =
    any_put (λ (held : Held). eqb held.run.0 new.run.0) (λ held. nat_lt new.run.0 held.run.0) new runs
    ∙ ap (λ t. t || has_run new.run runs) (eqb_itself new.run.0)

not_both : (a b n : ℕ) → b ≢ a → not (eqb n a) ≡ false → eqb n b ≡ false
not_both a b n h e = grind (arith, nat_tests)

run_number : (a b : RunId) → a ≢ b → a.0 ≢ b.0
run_number a b h e = h (ap (λ (n : ℕ). let r : RunId = record { 0 = n } in r) e)

pub others-without_run : (run : RunId) (runs : List Held) → KeepsOthers runs (without_run run runs) run
others-without_run run runs = record {
  in_pool = λ other apart.
      any_filter (λ (held : Held). eqb held.run.0 other.0) (λ held. not (eqb held.run.0 run.0))
      (λ held e. not_both run.0 other.0 held.run.0 (run_number other run apart) e) runs;
  holdings = λ other doc apart.
      any_filter (λ (held : Held). eqb held.run.0 other.0 && has_doc doc held.docs) (λ held. not (eqb held.run.0 run.0))
      (λ held e. ap (λ t. t && has_doc doc held.docs) (not_both run.0 other.0 held.run.0 (run_number other run apart) e)) runs;
}

-- ---- whether a run holds, and whether any does

pub holds_among : (doc : DocId) (run : RunId) (runs : List Held) → list_any (λ holder. eqb holder.0 run.0) (holders_of doc runs) ≡ pool_holds runs run doc
holds_among doc run [] = refl
holds_among doc run (held ∷ runs) =
    ap (list_any (λ holder. eqb holder.0 run.0)) (holders-cons doc held runs) ∙ step (eqb held.run.0 run.0) refl (has_doc doc held.docs)
    ∙ ap (λ t. (eqb held.run.0 run.0 && has_doc doc held.docs) || t) (holds_among doc run runs)
  where
    step : (mine : Bool) → eqb held.run.0 run.0 ≡ mine → (here : Bool)
        → list_any (λ holder. eqb holder.0 run.0) (cond here (held.run ∷ holders_of doc runs) (holders_of doc runs))
        ≡ ((mine && here) || list_any (λ holder. eqb holder.0 run.0) (holders_of doc runs))
    step true e true = ap (λ t. t || list_any (λ holder. eqb holder.0 run.0) (holders_of doc runs)) e
    step true e false = refl
    step false e true = ap (λ t. t || list_any (λ holder. eqb holder.0 run.0) (holders_of doc runs)) e
    step false e false = refl

pub any_holder : (doc : DocId) (runs : List Held) → nat_lt 0 (length (holders_of doc runs)) ≡ some_run_holds doc runs
any_holder doc [] = refl
any_holder doc (held ∷ runs) = ap (λ holders. nat_lt 0 (length holders)) (holders-cons doc held runs) ∙ step (has_doc doc held.docs) (any_holder doc runs)
  where
    positive : (n : ℕ) → ltb 0 (suc n) ≡ true
    positive n = lt-ltb 0 (suc n) (omega arith)

    step : (here : Bool) → nat_lt 0 (length (holders_of doc runs)) ≡ some_run_holds doc runs
        → nat_lt 0 (length (cond here (held.run ∷ holders_of doc runs) (holders_of doc runs))) ≡ (here || some_run_holds doc runs)
    step true rest = positive (length (holders_of doc runs))
    step false rest = rest

-- ---- a run with the greatest number

not_below : (m n : ℕ) → m < n → nat_lt n m ≡ false
not_below m n h = grind (arith, nat_tests)

pub put_last : (new : Held) (runs : List Held) → All (λ held. held.run.0 < new.run.0) runs → with_run new runs ≡ runs ++ new ∷ []
put_last new [] all = refl
put_last new (held ∷ runs) all =
    ap (λ t. cond t (new ∷ held ∷ runs) (held ∷ with_run new runs)) (not_below held.run.0 new.run.0 (all 0 held (omega arith)))
    ∙ ap (λ rest. held ∷ rest) (put_last new runs (All-tail (λ h. h.run.0 < new.run.0) held runs all))
