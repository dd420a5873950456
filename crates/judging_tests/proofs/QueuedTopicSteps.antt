-- The topics of the tests.
use Rattle.std.proofs.Common.{◌≡◌, ◌≢◌, ℕ, zero, suc, ◌+◌, ◌<◌, ◌≤◌, ◌++◌, Bool, false, not, eqb, nat_lt, List, [], ◌∷◌, length, get_or, set, sym, ap, ◌∙◌, Option, arith}
use Rattle.std.specs.Bool.{IsTrue}
use Rattle.std.specs.List.{All, Contains}
use Rattle.std.proofs.lemmas.Bool.{false≢true}
use Rattle.std.proofs.lemmas.List.Elements.{All-contains, All-filter, All-push, All-weaker}
use Rattle.std.proofs.lemmas.List.Folds.{list_any_none}
use Rattle.std.proofs.lemmas.List.{length_push}
use Rattle.std.proofs.lemmas.List.Quantifiers.{all_pairs_push}
use Rattle.decimal_rank.specs.declared.naming.DocId.{DocId}
use Rattle.decimal_rank.specs.Rankings.Places.{AreDistinct}
use Rattle.decimal_rank.proofs.TruthValues.{eqb_below}
use Rattle.depth_pool.specs.declared.runs.RunId.{RunId}
use Rattle.depth_pool.specs.Holdings.{Held, has_run, with_run, without_run}
use Rattle.mtf_queue.specs.Rule.{trail_regraded}
use Rattle.mtf_queue.specs.declared.rule.Judged.{Judged}
use Rattle.depth_pool.proofs.Lists.{all_put}

-- a number above each in the pool is new
pub number_is_new : (runs : List Held) (next : ℕ) → All (λ held. held.run.0 < next) runs → has_run (record { 0 = next }) runs ≡ false
number_is_new runs next numbered = list_any_none (λ (held : Held). eqb held.run.0 next) runs (λ k d h. eqb_below (get_or runs k d).run.0 next (numbered k d h))

pub numbered_with_run : (new : Held) (runs : List Held) (next : ℕ) → new.run.0 ≡ next → All (λ held. held.run.0 < next) runs
    → All (λ held. held.run.0 < next + 1) (with_run new runs)
numbered_with_run new runs next is numbered =
    all_put (λ held. held.run.0 < next + 1) (λ held. nat_lt new.run.0 held.run.0) new runs (omega arith)
    (All-weaker (λ (held : Held). held.run.0 < next) (λ held. held.run.0 < next + 1) (λ held h. omega arith) runs numbered)

pub numbered_without_run : (run : RunId) (runs : List Held) (next : ℕ) → All (λ held. held.run.0 < next) runs
    → All (λ held. held.run.0 < next) (without_run run runs)
numbered_without_run run runs next numbered = All-filter (λ (held : Held). not (eqb held.run.0 run.0)) (λ held. held.run.0 < next) runs numbered

-- what the pool lacks isn't in its queue
pub absent : (runs : List Held) (order : List RunId) (run : RunId) → All (λ other. IsTrue (has_run other runs)) order
    → has_run run runs ≡ false → Contains order run → ⊥
absent runs order run in_pool lacks among = false≢true (sym lacks ∙ All-contains (λ other. IsTrue (has_run other runs)) order run in_pool among)

-- documents below a number, each once
pub record IsListed (docs : List DocId) (next : ℕ) : Type 0 where
  pub below : All (λ doc. doc.0 < next) docs
  pub distinct : AreDistinct docs
  pub few : length docs ≤ next

pub listed_more : (docs : List DocId) (next : ℕ) → IsListed docs next → IsListed (docs ++ record { 0 = next } ∷ []) (next + 1)
listed_more docs next was =
    let few = was.few in
    record {
      below = All-push (λ (doc : DocId). doc.0 < next + 1) docs (record { 0 = next })
          (All-weaker (λ (doc : DocId). doc.0 < next) (λ doc. doc.0 < next + 1) (λ doc h. omega arith) docs was.below) (omega arith);
      distinct = all_pairs_push (λ (a b : DocId). a ≢ b) docs (record { 0 = next }) was.distinct
          (λ k d h e. let low = was.below k d h in let same = ap (λ (doc : DocId). doc.0) e in omega arith);
      few = omega (arith, length_push docs (record { 0 = next }));
    }

pub listed_less : (docs : List DocId) (next : ℕ) → IsListed docs next → IsListed docs (next + 1)
listed_less docs next was =
    let few = was.few in
    record {
      below = All-weaker (λ (doc : DocId). doc.0 < next) (λ doc. doc.0 < next + 1) (λ doc h. omega arith) docs was.below;
      distinct = was.distinct;
      few = omega arith;
    }

-- a trail with another grade at a place
pub regraded_at : (trail : List Judged) (index : ℕ) (judged : Judged) (relevant : Option Bool) → index < length trail → judged ≡ get_or trail index judged
    → set trail index (record { doc = judged.doc; relevant = relevant }) ≡ trail_regraded trail index relevant
regraded_at [] index judged relevant h e = absurd (omega arith)
regraded_at (first ∷ trail) zero judged relevant h e =
    let change : Judged → List Judged = λ j. record { doc = j.doc; relevant = relevant } ∷ trail in ap change e
regraded_at (first ∷ trail) (suc index) judged relevant h e = ap (λ rest. first ∷ rest) (regraded_at trail index judged relevant (omega arith) e)
