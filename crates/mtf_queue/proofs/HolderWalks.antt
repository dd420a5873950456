-- The walk along runs and the holders of a document, both by number.
use Rattle.std.proofs.Common.{◌≡◌, ℕ, ◌+◌, ◌<◌, ◌≤◌, Bool, true, false, ◌||◌, eqb, List, [], length, get_or, drop, refl, sym, ap, ◌∙◌, subst, arith}
use Rattle.std.specs.List.{All, AllPairs}
use Rattle.std.proofs.lemmas.Bool.Decides.{nat_tests}
use Rattle.std.proofs.lemmas.List.{drop_more, get_or-drop, get_or_default, length-drop}
use Rattle.std.proofs.lemmas.List.Folds.{list_any_none}
use Rattle.std.proofs.Math.Bool.{or-false}
use Rattle.decimal_rank.proofs.TruthValues.{eqb_above}
use Rattle.depth_pool.specs.declared.runs.RunId.{RunId}
use Rattle.depth_pool.specs.Holdings.{has_id}
use Rattle.mtf_queue.specs.declared.groups.Member.{Member}
use Rattle.mtf_queue.specs.Groups.{AreMembersByRun, KeepsFrom}
use Rattle.mtf_queue.proofs.GroupOrder.{pairs_of_runs}

is-lower : (m n k : ℕ) → m < n → n ≤ k → eqb m k ≡ false
is-lower m n k l h = grind (arith, nat_tests)

-- one more holder that is lower than the run
pub keeps-past : (holders all : List RunId) (at : ℕ) (d run : RunId) → at < length holders → (get_or holders at d).0 < run.0
    → KeepsFrom run all (drop at holders) → KeepsFrom run all (drop (at + 1) holders)
keeps-past holders all at d run h lower was other from =
    sym (ap (λ t. t || has_id other (drop (at + 1) holders)) (is-lower (get_or holders at d).0 run.0 other.0 lower from))
    ∙ sym (ap (has_id other) (drop_more holders at d h)) ∙ was other from

-- from a holder on that isn't lower than the run none is
pub ahead-from : (holders : List RunId) (at : ℕ) (d run : RunId) → AllPairs (λ a b. a.0 < b.0) holders → at < length holders
    → run.0 ≤ (get_or holders at d).0 → All (λ holder. run.0 ≤ holder.0) (drop at holders)
ahead-from holders at d run ascending h first k e l =
    let inside : at + k < length holders = omega (arith, length-drop at holders) in
    let is : (get_or (drop at holders) k e).0 ≡ (get_or holders (at + k) e).0 = ap (λ (r : RunId). r.0) (get_or-drop at holders k e) in
    omega (arith, is, later k e inside (eqb k 0) refl)
  where
    later : (k : ℕ) (e : RunId) → at + k < length holders → (t : Bool) → eqb k 0 ≡ t → run.0 ≤ (get_or holders (at + k) e).0
    later k e inside true is =
        let none : k ≡ 0 = grind (arith, nat_tests) in
        let place : at + k ≡ at = omega arith in
        let same : (get_or holders (at + k) e).0 ≡ (get_or holders at d).0 =
        ap (λ n. (get_or holders n e).0) place ∙ ap (λ (r : RunId). r.0) (get_or_default holders at e d h) in
        omega (arith, same, first)
    later k e inside false is =
        let some : 0 < k = grind (arith, nat_tests) in
        let same : (get_or holders at e).0 ≡ (get_or holders at d).0 = ap (λ (r : RunId). r.0) (get_or_default holders at e d h) in
        omega (arith, ascending at (at + k) e (omega arith) inside, same, first)

pub none-ahead : (holders : List RunId) (run : RunId) (left : List RunId) → left ≡ [] → All (λ holder. run.0 ≤ holder.0) left
none-ahead holders run left none = subst (All (λ holder. run.0 ≤ holder.0)) (sym none) (λ k d h. absurd (omega arith))

-- a run is the first that isn't lower, or none
pub first-is : (holders : List RunId) (at : ℕ) (run holder : RunId) → AllPairs (λ a b. a.0 < b.0) holders → at < length holders
    → holder ≡ get_or holders at holder → All (λ holder. run.0 ≤ holder.0) (drop at holders)
    → eqb holder.0 run.0 ≡ has_id run (drop at holders)
first-is holders at run holder ascending h is ahead =
    ap (λ (r : RunId). eqb r.0 run.0) is
    ∙ sym (or-false (eqb first.0 run.0))
    ∙ ap (λ t. eqb first.0 run.0 || t) (sym (list_any_none (λ other. eqb other.0 run.0) (drop (at + 1) holders) others))
    ∙ sym (ap (has_id run) (drop_more holders at holder h))
  where
    first : RunId
    first = get_or holders at holder

    others : All (λ other. eqb other.0 run.0 ≡ false) (drop (at + 1) holders)
    others k e l =
        let inside : at + 1 + k < length holders = omega (arith, length-drop (at + 1) holders) in
        let here : get_or (drop at holders) 0 e ≡ get_or holders at e =
        get_or-drop at holders 0 e ∙ ap (λ n. get_or holders n e) (let p : at + 0 ≡ at = omega arith in p) in
        let not-less : run.0 ≤ (get_or (drop at holders) 0 e).0 = ahead 0 e (omega (arith, length-drop at holders)) in
        let lowest : run.0 ≤ (get_or holders at e).0 = omega (arith, not-less, ap (λ (r : RunId). r.0) here) in
        let is_now : (get_or (drop (at + 1) holders) k e).0 ≡ (get_or holders (at + 1 + k) e).0 = ap (λ (r : RunId). r.0) (get_or-drop (at + 1) holders k e) in
        eqb_above (get_or (drop (at + 1) holders) k e).0 run.0 (omega (arith, is_now, ascending at (at + 1 + k) e (omega arith) inside, lowest))

-- ---- the loop over the runs

-- no holder that was passed is a run from an index on
abbrev pub ArePassed : List RunId → ℕ → List Member → ℕ → Type 0
ArePassed holders next members at = (j : ℕ) (d : Member) → at ≤ j → j < length members → KeepsFrom (get_or members j d).run holders (drop next holders)

pub none-passed : (holders : List RunId) (members : List Member) → ArePassed holders 0 members 0
none-passed holders members j d h l other from = refl

pub more-passed : (holders : List RunId) (members : List Member) (at next further : ℕ) (run : RunId) (d : Member)
    → AreMembersByRun members → at < length members → run ≡ (get_or members at d).run
    → KeepsFrom run (drop next holders) (drop further holders) → ArePassed holders next members at → ArePassed holders further members (at + 1)
more-passed holders members at next further run d by_run within is passed was j e h l other from =
    let rises : (get_or members at e).run.0 ≤ (get_or members j e).run.0 = pairs_of_runs (λ r s. r.0 ≤ s.0) members by_run at j e (omega arith) l in
    let here : run.0 ≡ (get_or members at e).run.0 = ap (λ (r : RunId). r.0) is ∙ ap (λ (m : Member). m.run.0) (get_or_default members at d e within) in
    passed other (omega (arith, rises, here, from)) ∙ was j e (omega arith) l other from

-- whether a run is a holder is seen behind those that were passed
pub among-is : (holders : List RunId) (next further : ℕ) (run : RunId) → KeepsFrom run (drop next holders) (drop further holders)
    → KeepsFrom run holders (drop next holders) → has_id run (drop further holders) ≡ has_id run holders
among-is holders next further run passed was = passed run (omega arith) ∙ was run (omega arith)
