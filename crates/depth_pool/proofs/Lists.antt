-- Lists that an element is put into or taken out of.
use Rattle.std.proofs.Common.{◌≡◌, ℕ, suc, ◌+◌, Bool, true, false, cond, not, ◌||◌, ◌<◌, eqb, List, [], ◌∷◌, length, take, filter, refl, sym, ap, ◌∙◌, arith, subst}
use Rattle.std.specs.List.{position_or_len, insert, list_any, All, AllPairs}
use Rattle.std.proofs.lemmas.List.{get_or-take, length-take}
use Rattle.std.proofs.lemmas.List.Elements.{All-cons, All-tail}
use borrow.Author.Tests.{eqb-true}
use Rattle.std.specs.List.Retain.{RetainsInTurn}
use Rattle.decimal_rank.proofs.TruthValues.{or_in_turn}
use Rattle.depth_pool.specs.Holdings.{put_before}

-- an insert at the first index that passes
pub insert_put : {X : Type 0} (p : X → Bool) (x : X) (ys : List X) → insert ys (position_or_len p ys) x ≡ put_before p x ys
insert_put p x [] = refl
insert_put {X} p x (y ∷ ys) = step (position_or_len p ys) (insert_put p x ys) (p y)
  where
    step : (n : ℕ) → insert ys n x ≡ put_before p x ys → (t : Bool) → insert (y ∷ ys) (cond (not t) (1 + n) 0) x ≡ cond t (x ∷ y ∷ ys) (y ∷ put_before p x ys)
    step n rest true = refl
    step n rest false = ap (λ i. insert (y ∷ ys) i x) (let e : 1 + n ≡ suc n = omega arith in e) ∙ ap (λ zs. y ∷ zs) rest

-- a `retain` whose test changes neither itself nor what it tests
pub filter_from_turns : {S X : Type 0} (R : S → X → Bool → S → X → Type 0) (test : X → Bool) (s : S)
    → ((x : X) (b : Bool) (t : S) (y : X) → R s x b t y → (b ≡ test x) × (t ≡ s) × (y ≡ x)) → (xs ys : List X) → RetainsInTurn R s xs ys → ys ≡ filter test xs
filter_from_turns R test s says [] ys h = h
filter_from_turns R test s says (x ∷ xs) ys h =
    let at = says x h.0 h.1 h.2 h.3 in
    let rest = filter_from_turns R test s says xs h.4 (subst (λ t. RetainsInTurn R t xs h.4) at.1 h.5) in
    h.6 ∙ ap (λ b. cond b (h.2 ∷ h.4) h.4) at.0 ∙ ap (λ y. cond (test x) (y ∷ h.4) h.4) at.2 ∙ ap (λ zs. cond (test x) (x ∷ zs) zs) rest

pub filter_twice : {X : Type 0} (p : X → Bool) (xs : List X) → filter p (filter p xs) ≡ filter p xs
filter_twice p [] = refl
filter_twice {X} p (x ∷ xs) = step (filter_twice p xs) (p x) refl
  where
    step : filter p (filter p xs) ≡ filter p xs → (t : Bool) → p x ≡ t
        → filter p (cond t (x ∷ filter p xs) (filter p xs)) ≡ cond t (x ∷ filter p xs) (filter p xs)
    step twice true e = ap (λ b. cond b (x ∷ filter p (filter p xs)) (filter p (filter p xs))) e ∙ ap (λ zs. x ∷ zs) twice
    step twice false e = twice

-- ---- pairs and quantifiers at a first element

pub pairs_take : {X : Type 0} (R : X → X → Type 0) (n : ℕ) (xs : List X) → AllPairs R xs → AllPairs R (take n xs)
pairs_take R n xs all i j d h lt =
    let short = length-take n xs in
    let below : j < n = omega (arith, short) in
    let first : i < n = omega arith in
    rw (get_or-take n xs i d first, get_or-take n xs j d below) (all i j d h (omega (arith, short)))

pub all_put : {X : Type 0} (P : X → Type 0) (q : X → Bool) (x : X) (ys : List X) → P x → All P ys → All P (put_before q x ys)
all_put P q x [] here all = All-cons P x [] here all
all_put {X} P q x (y ∷ ys) here all = step (all_put P q x ys here (All-tail P y ys all)) (q y)
  where
    step : All P (put_before q x ys) → (t : Bool) → All P (cond t (x ∷ y ∷ ys) (y ∷ put_before q x ys))
    step rest true = All-cons P x (y ∷ ys) here all
    step rest false = All-cons P y (put_before q x ys) (all 0 y (omega arith)) rest

-- ---- tests of some element

pub any_put : {X : Type 0} (p q : X → Bool) (x : X) (ys : List X) → list_any p (put_before q x ys) ≡ (p x || list_any p ys)
any_put p q x [] = refl
any_put {X} p q x (y ∷ ys) = step (any_put p q x ys) (q y)
  where
    step : list_any p (put_before q x ys) ≡ (p x || list_any p ys) → (t : Bool)
        → list_any p (cond t (x ∷ y ∷ ys) (y ∷ put_before q x ys)) ≡ (p x || (p y || list_any p ys))
    step rest true = refl
    step rest false = ap (λ b. p y || b) rest ∙ or_in_turn (p y) (p x) (list_any p ys)

-- a filter that leaves out nothing that passes
pub any_filter : {X : Type 0} (p k : X → Bool) → ((x : X) → k x ≡ false → p x ≡ false) → (xs : List X) → list_any p (filter k xs) ≡ list_any p xs
any_filter p k out [] = refl
any_filter {X} p k out (x ∷ xs) = step (any_filter p k out xs) (k x) refl
  where
    step : list_any p (filter k xs) ≡ list_any p xs → (t : Bool) → k x ≡ t → list_any p (cond t (x ∷ filter k xs) (filter k xs)) ≡ (p x || list_any p xs)
    step rest true e = ap (λ b. p x || b) rest
    step rest false e = rest ∙ sym (ap (λ b. b || list_any p xs) (out x e))

pub no_elements : {X : Type 0} (xs : List X) → eqb (length xs) 0 ≡ true → xs ≡ []
no_elements [] h = refl
no_elements (x ∷ xs) h = absurd (let none = eqb-true (suc (length xs)) 0 h in omega arith)
