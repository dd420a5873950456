-- A queue that stays in order.
use Rattle.std.proofs.Common.{◌≡◌, ◌≢◌, ℕ, zero, suc, ◌<◌, Bool, true, false, not, eqb, eq-eqb, List, [], ◌∷◌, ◌++◌, length, get_or, set, filter, reverse, take, drop, ltb, ◌+◌, ◌≤◌, refl, sym, ap, ◌∙◌, ◌⊎◌, inl, inr, subst, Option, Some, None, arith}
use Rattle.std.specs.Bool.{Decides, IsTrue}
use Rattle.std.specs.List.{All, AllPairs, Contains, insert}
use Rattle.std.specs.Option.{option_eq}
use Rattle.std.specs.List.Sorted.{IsPartitionPoint, IsPartitionedBy, IsPermutation}
use Rattle.std.specs.Ordering.{is_lt}
use Rattle.std.proofs.lemmas.Bool.{false≢true}
use Rattle.std.proofs.lemmas.Bool.Decides.{nat_tests}
use Rattle.std.proofs.lemmas.List.{get_or-drop, get_or-take, length-drop, length-take-le}
use Rattle.std.proofs.lemmas.List.Elements.{All-append, All-cons, All-contains, All-filter, All-weaker, Contains-get_or, filter_passes}
use Rattle.std.proofs.lemmas.List.Kept.{AllPairs-cons, AllPairs-filter}
use Rattle.std.proofs.lemmas.List.Sorted.{All-permutation, IsPermutation-filter_both, IsPermutation-insert}
use Rattle.std.proofs.lemmas.Map.Keys.{IsDistinct-IsPermutation}
use Rattle.std.proofs.lemmas.Map.Made.{AllPairs-from_IsDistinct, IsDistinct-from_AllPairs}
use borrow.Author.Tests.{eqb-true, ltb-true}
use mathlib.Core.Bool.{beq}
use Rattle.decimal_rank.specs.declared.naming.DocId.{DocId}
use Rattle.decimal_rank.proofs.TruthValues.{eqb_swap}
use Rattle.depth_pool.specs.declared.runs.RunId.{RunId}
use Rattle.depth_pool.specs.Holdings.{Held, KeepsOthers, has_run, pool_holds}
use Rattle.mtf_queue.specs.declared.rule.Judged.{Judged}
use Rattle.mtf_queue.specs.Rule.{HoldingRule, IsBefore, IsInOrder, is_first_side, moved_runs, rule_cmp, trail_regraded}
use Rattle.mtf_queue.proofs.RunComparisons.{before_across, before_by_holdings, before_from_test, before_on_one_side, before_test, chain, not_itself, one_of_two}

-- ---- runs that differ

abbrev pub Differ : RunId → RunId → Type 0
Differ r s = r ≢ s

abbrev same_run : RunId → RunId → Bool
same_run r s = eqb r.0 s.0

same_decides : (r s : RunId) → Decides (same_run r s) (r ≡ s)
same_decides r s = (λ e. let run : ℕ → RunId = λ n. record { 0 = n } in ap run (eqb-true r.0 s.0 e), λ e. eq-eqb r.0 s.0 (ap (λ (t : RunId). t.0) e))

pub differ_permuted : (xs ys : List RunId) → IsPermutation xs ys → AllPairs Differ xs → AllPairs Differ ys
differ_permuted xs ys permuted differ =
    AllPairs-from_IsDistinct same_decides ys
    (IsDistinct-IsPermutation same_run (λ r s. eqb_swap r.0 s.0) xs ys permuted (IsDistinct-from_AllPairs same_decides xs differ))

pub differ_in_order : (held : HoldingRule) (trail : List Judged) (order : List RunId) → AllPairs (IsBefore held trail) order → AllPairs Differ order
differ_in_order held trail order pairwise i j d l m e =
    not_itself held trail (get_or order j d) (subst (λ r. IsBefore held trail r (get_or order j d)) e (pairwise i j d l m))

-- ---- a group that moves

pairs_append : {X : Type 0} (R : X → X → Type 0) (P Q : X → Type 0) → ((x y : X) → P x → Q y → R x y) → (xs ys : List X)
    → All P xs → All Q ys → AllPairs R xs → AllPairs R ys → AllPairs R (xs ++ ys)
pairs_append R P Q across [] ys all_p all_q left right = right
pairs_append R P Q across (x ∷ xs) ys all_p all_q left right =
    AllPairs-cons R x (xs ++ ys)
    (All-append (R x) xs ys (λ k d h. left 0 (suc k) d (omega arith) (omega arith))
    (All-weaker Q (R x) (λ y q. across x y (all_p 0 x (omega arith)) q) ys all_q))
    (pairs_append R P Q across xs ys (λ k d h. all_p (suc k) d (omega arith)) all_q (λ i j d l m. left (suc i) (suc j) d (omega arith) (omega arith)) right)

pub in_order_moved : (held : HoldingRule) (trail : List Judged) (doc : DocId) (relevant : Bool) (order : List RunId) → AllPairs (IsBefore held trail) order
    → AllPairs (IsBefore held (trail ++ record { doc = doc; relevant = Some relevant } ∷ [])) (moved_runs (λ run. held run doc) relevant order)
in_order_moved held trail doc relevant order pairwise =
    let first : RunId → Bool = λ run. is_first_side (Some relevant) (held run doc) in
    let second : RunId → Bool = λ run. not (first run) in
    let firsts = filter_passes first order in
    let seconds = filter_passes second order in
    pairs_append (IsBefore held (trail ++ record { doc = doc; relevant = Some relevant } ∷ [])) (λ run. first run ≡ true)
    (λ run. second run ≡ true) (before_across held trail doc relevant) (filter first order) (filter second order) firsts seconds
    (λ i j d l m. before_on_one_side held trail doc relevant _ _ (firsts i d (omega arith) ∙ sym (firsts j d m))
    (AllPairs-filter (IsBefore held trail) first order pairwise i j d l m))
    (λ i j d l m. before_on_one_side held trail doc relevant _ _
    (both_false (first (get_or (filter second order) i d)) (first (get_or (filter second order) j d)) (seconds i d (omega arith)) (seconds j d m))
    (AllPairs-filter (IsBefore held trail) second order pairwise i j d l m))
  where
    both_false : (t u : Bool) → not t ≡ true → not u ≡ true → t ≡ u
    both_false true u p q = absurd (false≢true p)
    both_false false true p q = absurd (false≢true q)
    both_false false false p q = refl

-- the same holders move the same runs
pub moved_alike : (first second : RunId → Bool) (relevant : Bool) (order : List RunId) → ((run : RunId) → first run ≡ second run)
    → moved_runs first relevant order ≡ moved_runs second relevant order
moved_alike first second relevant order same =
    let tests : first ≡ second = λ i run. same run i in
    ap (λ is_holder. moved_runs is_holder relevant order) tests

pub runs_moved : (held : HoldingRule) (doc : DocId) (relevant : Bool) (order : List RunId)
    → IsPermutation order (moved_runs (λ run. held run doc) relevant order)
runs_moved held doc relevant order =
    let first : RunId → Bool = λ run. is_first_side (Some relevant) (held run doc) in
    IsPermutation-filter_both first (λ run. not (first run)) (λ run. refl) order

-- ---- a run put in at its place

abbrev pub rule_lt : HoldingRule → List Judged → RunId → RunId → Bool
rule_lt held trail r s = is_lt (rule_cmp held (reverse trail) r s)

at_most_same : (i j : ℕ) → i ≤ j → ltb i j ≡ false → j ≡ i
at_most_same i j l e = grind (arith, nat_tests)

-- those that come before a run stand in front
pub partitioned_in_order : (held : HoldingRule) (trail : List Judged) (order : List RunId) (run : RunId)
    → AllPairs (IsBefore held trail) order → IsPartitionedBy (λ other. rule_lt held trail other run) order
partitioned_in_order held trail order run pairwise i j d l m first = step (ltb i j) refl
  where
    step : (t : Bool) → ltb i j ≡ t → rule_lt held trail (get_or order i d) run ≡ true
    step true e = before_test held trail (get_or order i d) run
        (chain held trail (get_or order i d) (get_or order j d) run (pairwise i j d (ltb-true i j e) m)
        (before_from_test held trail (get_or order j d) run first))
    step false e = let same : j ≡ i = at_most_same i j l e in subst (λ n. rule_lt held trail (get_or order n d) run ≡ true) same first

pub in_order_inserted : (held : HoldingRule) (trail : List Judged) (order : List RunId) (run : RunId) (i : ℕ)
    → (Contains order run → ⊥) → AllPairs (IsBefore held trail) order
    → IsPartitionPoint (λ other. rule_lt held trail other run ≡ true) (λ other. rule_lt held trail other run ≡ false) order i
    → i ≤ length order → AllPairs (IsBefore held trail) (insert order i run)
in_order_inserted held trail order run i is_new pairwise parts within =
    pairs_append (IsBefore held trail) (λ other. IsBefore held trail other run)
    (λ other. (run ≡ other) ⊎ IsBefore held trail run other) across (take i order) (run ∷ drop i order)
    before (All-cons (λ other. (run ≡ other) ⊎ IsBefore held trail run other) run (drop i order) (inl refl) (λ k d h. inr (after k d h)))
    (λ j k d l m. subst (λ r. IsBefore held trail r (get_or (take i order) k d)) (sym (get_or-take i order j d (omega (arith, length-take-le i order within))))
    (subst (IsBefore held trail (get_or order j d)) (sym (get_or-take i order k d (omega (arith, length-take-le i order within))))
    (pairwise j k d l (omega (arith, length-take-le i order within)))))
    (AllPairs-cons (IsBefore held trail) run (drop i order) after
    (λ j k d l m. subst (λ r. IsBefore held trail r (get_or (drop i order) k d)) (sym (get_or-drop i order j d))
    (subst (IsBefore held trail (get_or order (i + j) d)) (sym (get_or-drop i order k d))
    (pairwise (i + j) (i + k) d (omega arith) (omega (arith, length-drop i order))))))
  where
    across : (r s : RunId) → IsBefore held trail r run → (run ≡ s) ⊎ IsBefore held trail run s → IsBefore held trail r s
    across r s first (inl same) = subst (IsBefore held trail r) same first
    across r s first (inr second) = chain held trail r run s first second

    before : All (λ other. IsBefore held trail other run) (take i order)
    before k d h =
        let short : k < i = omega (arith, length-take-le i order within) in
        subst (λ r. IsBefore held trail r run) (sym (get_or-take i order k d short))
        (before_from_test held trail (get_or order k d) run (parts.0 k d (omega arith) short))

    later : (other : RunId) → other ≢ run → rule_lt held trail other run ≡ false
        → IsBefore held trail other run ⊎ IsBefore held trail run other → IsBefore held trail run other
    later other differ fails (inl first) = absurd (false≢true (sym fails ∙ before_test held trail other run first))
    later other differ fails (inr second) = second

    apart : (k : ℕ) (d : RunId) → k < length order → get_or order k d ≢ run
    apart k d h e = is_new (subst (Contains order) e (Contains-get_or order k d h))

    after : All (IsBefore held trail run) (drop i order)
    after k d h =
        let long : i + k < length order = omega (arith, length-drop i order) in
        subst (IsBefore held trail run) (sym (get_or-drop i order k d))
        (later (get_or order (i + k) d) (apart (i + k) d long) (parts.1 (i + k) d (omega arith) long)
        (one_of_two held trail (get_or order (i + k) d) run (apart (i + k) d long)))

-- ---- a run that leaves

abbrev another : RunId → RunId → Bool
another run other = not (eqb other.0 run.0)

pub gone_filtered : (run : RunId) (order : List RunId) → Contains (filter (another run) order) run → ⊥
gone_filtered run order among =
    let passes = All-contains (λ other. another run other ≡ true) (filter (another run) order) run (filter_passes (another run) order) among in
    false≢true (sym (ap not (eq-eqb run.0 run.0 refl)) ∙ passes)

pub in_order_filtered : (runs : List Held) (trail : List Judged) (order : List RunId) (run : RunId)
    → IsInOrder runs trail order → IsInOrder runs trail (filter (another run) order)
in_order_filtered runs trail order run before = record {
  in_pool = All-filter (another run) (λ other. IsTrue (has_run other runs)) order before.in_pool;
  pairwise = AllPairs-filter (IsBefore (pool_holds runs) trail) (another run) order before.pairwise;
}

-- ---- a pool in which another run changed

pub in_order_outlasts : (before after : List Held) (run : RunId) (trail : List Judged) (order : List RunId)
    → KeepsOthers before after run → (Contains order run → ⊥) → IsInOrder before trail order → IsInOrder after trail order
in_order_outlasts before after run trail order keeps absent was =
    let other : (k : ℕ) (d : RunId) → k < length order → get_or order k d ≢ run = λ k d h e. absent (subst (Contains order) e (Contains-get_or order k d h)) in
    record {
      in_pool = λ k d h. keeps.in_pool (get_or order k d) (other k d h) ∙ was.in_pool k d h;
      pairwise = λ i j d l m.
          before_by_holdings (pool_holds before) (pool_holds after) trail (get_or order i d) (get_or order j d)
          (λ doc. keeps.holdings (get_or order i d) doc (other i d (omega arith)))
          (λ doc. keeps.holdings (get_or order j d) doc (other j d m))
          (was.pairwise i j d l m);
    }

-- ---- a grade that changes

pub grade_set : (trail : List Judged) (index : ℕ) (judged : Judged) (relevant : Option Bool) → index < length trail
    → judged ≡ get_or trail index judged → set trail index (record { doc = judged.doc; relevant = relevant }) ≡ trail_regraded trail index relevant
grade_set [] index judged relevant h e = absurd (omega arith)
grade_set (first ∷ trail) zero judged relevant h e = let change : Judged → List Judged = λ j. record { doc = j.doc; relevant = relevant } ∷ trail in ap change e
grade_set (first ∷ trail) (suc index) judged relevant h e = ap (λ rest. first ∷ rest) (grade_set trail index judged relevant (omega arith) e)

pub same_grade : (grade other : Option Bool) → not (option_eq beq grade other) ≡ false → grade ≡ other
same_grade None None e = refl
same_grade None (Some b) e = absurd (false≢true (sym e))
same_grade (Some b) None e = absurd (false≢true (sym e))
same_grade (Some true) (Some true) e = refl
same_grade (Some true) (Some false) e = absurd (false≢true (sym e))
same_grade (Some false) (Some true) e = absurd (false≢true (sym e))
same_grade (Some false) (Some false) e = refl

pub same_regraded : (trail : List Judged) (index : ℕ) (judged : Judged) (relevant : Option Bool) → index < length trail
    → judged ≡ get_or trail index judged → judged.relevant ≡ relevant → trail_regraded trail index relevant ≡ trail
same_regraded [] index judged relevant h e same = absurd (omega arith)
same_regraded (first ∷ trail) zero judged relevant h e same =
    let graded : Option Bool → List Judged = λ grade. record { doc = first.doc; relevant = grade } ∷ trail in
    ap graded (sym same ∙ ap (λ (j : Judged). j.relevant) e)
same_regraded (first ∷ trail) (suc index) judged relevant h e same = ap (λ rest. first ∷ rest) (same_regraded trail index judged relevant (omega arith) e same)

-- ---- the calls of a queue

-- runs of the pool that were sorted by the rule
pub in_order_resorted : (runs : List Held) (trail : List Judged) (order sorted : List RunId)
    → All (λ run. IsTrue (has_run run runs)) order → AllPairs Differ order → IsPermutation order sorted
    → (AllPairs Differ order → AllPairs (IsBefore (pool_holds runs) trail) sorted) → IsInOrder runs trail sorted
in_order_resorted runs trail order sorted in_pool differ permuted pairwise = record {
  in_pool = All-permutation (λ run. IsTrue (has_run run runs)) order sorted permuted in_pool;
  pairwise = pairwise differ;
}

pub in_order_entered : (runs : List Held) (trail : List Judged) (order : List RunId) (run : RunId) (i : ℕ)
    → IsTrue (has_run run runs) → IsInOrder runs trail order
    → AllPairs (IsBefore (pool_holds runs) trail) (insert order i run) → IsInOrder runs trail (insert order i run)
in_order_entered runs trail order run i in_pool was pairwise = record {
  in_pool = All-permutation (λ other. IsTrue (has_run other runs)) (run ∷ order) (insert order i run) (IsPermutation-insert order i run)
      (All-cons (λ other. IsTrue (has_run other runs)) run order in_pool was.in_pool);
  pairwise = pairwise;
}

pub in_order_judged : (runs : List Held) (trail : List Judged) (doc : DocId) (relevant : Bool) (order : List RunId) → IsInOrder runs trail order
    → IsInOrder runs (trail ++ record { doc = doc; relevant = Some relevant } ∷ []) (moved_runs (λ run. pool_holds runs run doc) relevant order)
in_order_judged runs trail doc relevant order was = record {
  in_pool = All-permutation (λ run. IsTrue (has_run run runs)) order (moved_runs (λ run. pool_holds runs run doc) relevant order)
      (runs_moved (pool_holds runs) doc relevant order) was.in_pool;
  pairwise = in_order_moved (pool_holds runs) trail doc relevant order was.pairwise;
}
