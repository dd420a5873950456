-- The judging rule: which of two runs comes first.
use Rattle.std.specs.Prelude.{ℕ, zero, suc, nat_lt, Bool, true, false, not, ◌&&◌, ◌||◌, ◌==◌, List, [], ◌∷◌, ◌++◌, Option, Some, None, is_some, IsTrue, filter, find, reverse, All, AllPairs}
use Rattle.std.specs.List.{list_all}
use Rattle.std.specs.Ordering.{nat_cmp, ordering_then}
use Rattle.std.specs.declared.cmp.Ordering.{Ordering}
use Rattle.decimal_rank.specs.declared.naming.DocId.{DocId}
use Rattle.depth_pool.specs.declared.runs.RunId.{RunId}
use Rattle.depth_pool.specs.Holdings.{Held, has_run, pool_holds}
use Rattle.mtf_queue.specs.declared.rule.Judged.{Judged}

-- ---- the rule, over any types of runs and of documents. A run has a number, a document is now
-- relevant, not relevant or without a grade, and the trail has each document once, the newest last

-- whether one and only one of two facts holds
abbrev pub is_one_of : Bool → Bool → Bool
is_one_of true b = not b
is_one_of false b = b

-- whether a document tells two runs apart: it has a grade, and one and only one of the two holds it
abbrev pub tells_apart : {R D : Type 0} → (D → Option Bool) → (R → D → Bool) → R → R → D → Bool
tells_apart relevant pool_holds r s doc = is_some (relevant doc) && is_one_of (pool_holds r doc) (pool_holds s doc)

-- the last document of the trail that tells two runs apart
abbrev pub deciding : {R D : Type 0} → (D → Option Bool) → (R → D → Bool) → List D → R → R → Option D
deciding relevant pool_holds trail r s = find (tells_apart relevant pool_holds r s) (reverse trail)

-- whether a document puts a run on its first side: a holder where it is relevant, another run where it is not
abbrev pub is_first_side : Option Bool → Bool → Bool
is_first_side None held = false
is_first_side (Some true) held = held
is_first_side (Some false) held = not held

-- whether r is before s by the document that decides, or by number where none does
abbrev pub puts_first : {R D : Type 0} → (R → ℕ) → (D → Option Bool) → (R → D → Bool) → R → R → Option D → Bool
puts_first number relevant pool_holds r s None = nat_lt (number r) (number s)
puts_first number relevant pool_holds r s (Some doc) = is_first_side (relevant doc) (pool_holds r doc)

-- whether r comes before s
abbrev pub is_before_by_trail : {R D : Type 0} → (R → ℕ) → (D → Option Bool) → (R → D → Bool) → List D → R → R → Bool
is_before_by_trail number relevant pool_holds trail r s = puts_first number relevant pool_holds r s (deciding relevant pool_holds trail r s)

-- ---- the rule over the runs and judged documents of a topic

-- which documents each run holds
abbrev pub HoldingRule : Type 0
HoldingRule = RunId → DocId → Bool

-- r comes before s
abbrev pub IsBefore : HoldingRule → List Judged → RunId → RunId → Type 0
IsBefore held trail r s = IsTrue (is_before_by_trail (λ run. run.0) (λ judged. judged.relevant) (λ run judged. held run judged.doc) trail r s)

-- of these runs the one that comes before each other one
abbrev pub first_by_trail : List Held → List Judged → List RunId → Option RunId
first_by_trail runs trail candidates =
    find (λ r. list_all
    (λ s. (r.0 == s.0) || is_before_by_trail (λ run. run.0) (λ judged. judged.relevant) (λ run judged. pool_holds runs run judged.doc) trail r s) candidates)
    candidates

-- each run of the queue is in the pool, and of any two the earlier in the list comes before the later.
-- No run comes before itself, so each stands once
pub record IsInOrder (runs : List Held) (trail : List Judged) (order : List RunId) : Type 0 where
  pub in_pool : All (λ run. IsTrue (has_run run runs)) order
  pub pairwise : AllPairs (IsBefore (pool_holds runs) trail) order

-- the trail with another grade at an index
abbrev pub trail_regraded : List Judged → ℕ → Option Bool → List Judged
trail_regraded [] index relevant = []
trail_regraded (judged ∷ trail) zero relevant = record judged { relevant = relevant } ∷ trail
trail_regraded (judged ∷ trail) (suc index) relevant = judged ∷ trail_regraded trail index relevant

-- the runs that a judged document with these holders puts first, then the others, each in their order
abbrev pub moved_runs : (RunId → Bool) → Bool → List RunId → List RunId
moved_runs is_holder relevant order =
    filter (λ run. is_first_side (Some relevant) (is_holder run)) order ++ filter (λ run. not (is_first_side (Some relevant) (is_holder run))) order

-- ---- the rule as a comparison, over the trail with the newest document first

-- 0 on the first side of a document, else 1; 0 for each run where the document has no grade
abbrev pub side : Option Bool → Bool → ℕ
side None held = 0
side (Some true) true = 0
side (Some true) false = 1
side (Some false) true = 1
side (Some false) false = 0

abbrev pub rule_cmp : HoldingRule → List Judged → RunId → RunId → Ordering
rule_cmp held [] r s = nat_cmp r.0 s.0
rule_cmp held (judged ∷ older) r s =
    ordering_then (nat_cmp (side judged.relevant (held r judged.doc)) (side judged.relevant (held s judged.doc))) (rule_cmp held older r s)
