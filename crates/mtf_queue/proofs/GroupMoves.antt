-- The step of a loop that moves the runs of one group to the front.
use Rattle.std.proofs.Common.{◌≡◌, ℕ, ◌+◌, ◌≤◌, ◌<◌, Bool, true, false, not, cond, List, [], ◌∷◌, ◌++◌, length, get_or, set, take, drop, filter, refl, sym, ap, ◌∙◌, arith, add-zero, subst, Some}
use Rattle.std.proofs.Math.ListN.{length-set}
use Rattle.std.proofs.lemmas.List.{append-nil, drop-drop, drop-set-lt, get_or-drop, length_push, take_all, take_more_set}
use Rattle.std.proofs.lemmas.List.Elements.{filter_more}
use mathlib.Core.Bool.{beq}
use Rattle.depth_pool.specs.declared.runs.RunId.{RunId}
use Rattle.mtf_queue.specs.Rule.{is_first_side}

-- of the first runs of old, those that pass stand in front and the others wait behind; the rest is as it was
pub record IsMoved (first : RunId → Bool) (old order behind : List RunId) (at front : ℕ) : Type 0 where
  pub fronts : take front order ≡ filter first (take at old)
  pub others : behind ≡ filter (λ run. not (first run)) (take at old)
  pub rest : drop at order ≡ drop at old
  pub within : front + length behind ≤ at
  pub len : length order ≡ length old

-- nothing is moved yet
pub none_moved : (first : RunId → Bool) (old behind : List RunId) → behind ≡ [] → IsMoved first old old behind 0 0
none_moved first old behind empty = record { fronts = refl; others = empty; rest = refl; within = omega (arith, ap length empty); len = refl }

same_at : (old order : List RunId) (at : ℕ) (d : RunId) → drop at order ≡ drop at old → get_or order at d ≡ get_or old at d
same_at old order at d rest =
    ap (λ i. get_or order i d) (sym (add-zero at)) ∙ sym (get_or-drop at order 0 d) ∙ ap (λ l. get_or l 0 d) rest
    ∙ get_or-drop at old 0 d ∙ ap (λ i. get_or old i d) (add-zero at)

one_more : (p : RunId → Bool) (old : List RunId) (at : ℕ) (run : RunId) (t : Bool) → at < length old → run ≡ get_or old at run
    → p run ≡ t → filter p (take (at + 1) old) ≡ filter p (take at old) ++ cond t (run ∷ []) []
one_more p old at run t h is e =
    filter_more p old at run h ∙ ap (λ x. filter p (take at old) ++ cond (p x) (x ∷ []) []) (sym is)
    ∙ ap (λ b. filter p (take at old) ++ cond b (run ∷ []) []) e

-- one more run that passes
pub moved_front : (first : RunId → Bool) (old order behind : List RunId) (at front : ℕ) (run : RunId)
    → IsMoved first old order behind at front → at < length order → run ≡ get_or order at run → first run ≡ true
    → IsMoved first old (set order front run) behind (at + 1) (front + 1)
moved_front first old order behind at front run was h is passes =
    let within = was.within in
    let len = was.len in
    let here : front < length order = omega arith in
    let old_is : run ≡ get_or old at run = is ∙ same_at old order at run was.rest in
    record {
      fronts = take_more_set order front run here ∙ ap (λ runs. runs ++ run ∷ []) was.fronts ∙ sym (one_more first old at run true (omega arith) old_is passes);
      others = was.others ∙ sym (append-nil _) ∙ sym (one_more (λ r. not (first r)) old at run false (omega arith) old_is (ap not passes));
      rest = drop-set-lt (at + 1) order front run (omega arith) ∙ sym (drop-drop 1 at order) ∙ ap (drop 1) was.rest ∙ drop-drop 1 at old;
      within = omega arith;
      len = length-set order front run ∙ was.len;
    }

-- one more run that fails
pub moved_behind : (first : RunId → Bool) (old order behind : List RunId) (at front : ℕ) (run : RunId)
    → IsMoved first old order behind at front → at < length order → run ≡ get_or order at run → first run ≡ false
    → IsMoved first old order (behind ++ run ∷ []) (at + 1) front
moved_behind first old order behind at front run was h is fails =
    let within = was.within in
    let len = was.len in
    let old_is : run ≡ get_or old at run = is ∙ same_at old order at run was.rest in
    record {
      fronts = was.fronts ∙ sym (append-nil _) ∙ sym (one_more first old at run false (omega arith) old_is fails);
      others = ap (λ runs. runs ++ run ∷ []) was.others ∙ sym (one_more (λ r. not (first r)) old at run true (omega arith) old_is (ap not fails));
      rest = sym (drop-drop 1 at order) ∙ ap (drop 1) was.rest ∙ drop-drop 1 at old;
      within = omega (arith, length_push behind run);
      len = was.len;
    }

-- all are moved
pub all_moved : (first : RunId → Bool) (old order behind : List RunId) (at front : ℕ) → IsMoved first old order behind at front → length old ≤ at
    → take front order ++ behind ≡ filter first old ++ filter (λ run. not (first run)) old
all_moved first old order behind at front was h =
    ap (λ runs. runs ++ behind) was.fronts ∙ ap (λ runs. filter first (take at old) ++ runs) was.others
    ∙ ap (λ runs. filter first runs ++ filter (λ run. not (first run)) runs) (take_all at old h)

-- ---- for the code of the loop

pub moved_at : (first : RunId → Bool) (old order behind : List RunId) (at front : ℕ) (order' behind' : List RunId) (front' : ℕ)
    → order' ≡ order → behind' ≡ behind → front' ≡ front
    → IsMoved first old order behind at front → IsMoved first old order' behind' at front'
moved_at first old order behind at front order' behind' front' order_is behind_is front_is was =
    subst (λ f. IsMoved first old order' behind' at f) (sym front_is)
    (subst (λ b. IsMoved first old order' b at front) (sym behind_is) (subst (λ o. IsMoved first old o behind at front) (sym order_is) was))

-- a run is put first where it holds a relevant document, and where it doesn't hold another
pub first_from_test : (held relevant t : Bool) → beq held relevant ≡ t → is_first_side (Some relevant) held ≡ t
first_from_test true true t e = e
first_from_test true false t e = e
first_from_test false true t e = e
first_from_test false false t e = e
