-- Numbers of leases.
use Rattle.std.proofs.Common.{◌≡◌, ◌≢◌, ℕ, ◌+◌, ◌-◌, ◌<◌, ◌⊎◌, Bool, true, false, cond, eqb, nat_lt, List, [], ◌∷◌, ◌++◌, Option, Some, None, length, map, refl, sym, ap, subst, ◌∙◌, arith, get_or, inl, inr, is_none, suc, zero, slice_get}
use Rattle.std.specs.Option.{IfSome, IsSomeAnd}
use Rattle.std.proofs.Math.ListN.{set}
use Rattle.std.proofs.lemmas.Bool.{eq-eqb, eqb-true, lt-ltb}
use Rattle.std.proofs.lemmas.List.{get_or-map, get_or_append_left, get_or_push, length-map, length_push}
use Rattle.std.proofs.lemmas.Option.{get_or_from_slice_get, slice_get-get_or, slice_get_within}
use Rattle.decimal_rank.specs.declared.naming.DocId.{DocId}
use Rattle.lease_desk.specs.Leases.{AreNumbered, desk_lease, ended_lease, next_lease, with_end, with_grant}
use Rattle.lease_desk.specs.declared.leases.Lease.{Lease}
use Rattle.lease_desk.specs.declared.leases.LeaseEnd.{LeaseEnd}
use Rattle.lease_desk.proofs.NextLeases.{below_or_last}

-- the lease at a place
pub at_place : (leases : List Lease) (i : ℕ) (d : Lease) → i < length leases → desk_lease leases (i + 1) ≡ Some (get_or leases i d)
at_place leases i d h =
    let some : nat_lt 0 (i + 1) ≡ true = lt-ltb 0 (i + 1) (omega arith) in
    let back : i + 1 - 1 ≡ i = omega arith in
    ap (λ t. cond t (slice_get leases (i + 1 - 1)) None) some ∙ ap (slice_get leases) back ∙ slice_get-get_or leases i d h

pub numbered_at : (leases : List Lease) → AreNumbered leases → (i : ℕ) (d : Lease) → i < length leases → (get_or leases i d).number ≡ i + 1
numbered_at leases numbered i d h = let P : Option Lease → Type 0 = λ found. IfSome found (λ lease. lease.number ≡ i + 1) in
    subst P (at_place leases i d h) (numbered (i + 1))

pub numbered_from : (leases : List Lease) → ((i : ℕ) (d : Lease) → i < length leases → (get_or leases i d).number ≡ i + 1) → AreNumbered leases
numbered_from leases each zero = tt
numbered_from leases each (suc i) = step (slice_get leases i) refl
  where
    step : (found : Option Lease) → slice_get leases i ≡ found → IfSome (desk_lease leases (suc i)) (λ lease. lease.number ≡ suc i)
    step None e =
        let some : nat_lt 0 (suc i) ≡ true = lt-ltb 0 (suc i) (omega arith) in
        let back : suc i - 1 ≡ i = omega arith in
        let none : desk_lease leases (suc i) ≡ None = ap (λ t. cond t (slice_get leases (suc i - 1)) None) some ∙ ap (slice_get leases) back ∙ e in
        let P : Option Lease → Type 0 = λ found. IfSome found (λ lease. lease.number ≡ suc i) in
        subst P (sym none) tt
    step (Some lease) e =
        let some : nat_lt 0 (suc i) ≡ true = lt-ltb 0 (suc i) (omega arith) in
        let back : suc i - 1 ≡ i = omega arith in
        let found : desk_lease leases (suc i) ≡ Some lease = ap (λ t. cond t (slice_get leases (suc i - 1)) None) some ∙ ap (slice_get leases) back ∙ e in
        let at : get_or leases i lease ≡ lease = get_or_from_slice_get leases i lease lease e in
        let within : i < length leases = slice_get_within leases i lease e in
        let number : lease.number ≡ i + 1 = ap (λ (l : Lease). l.number) (sym at) ∙ each i lease within in
        let next : i + 1 ≡ suc i = omega arith in
        let P : Option Lease → Type 0 = λ found. IfSome found (λ lease. lease.number ≡ suc i) in
        subst P (sym found) (number ∙ next)

-- ---- one more lease

pub granted_numbered : (leases : List Lease) (assessor : List ℕ) (topic : ℕ) (doc : DocId) (until : ℕ)
    → AreNumbered leases → AreNumbered (with_grant leases assessor topic doc until)
granted_numbered leases assessor topic doc until numbered =
    numbered_from (with_grant leases assessor topic doc until)
    (λ i d h. step i d (below_or_last i (length leases) (omega (arith, length_push leases (next_lease leases assessor topic doc until)))))
  where
    new : Lease
    new = next_lease leases assessor topic doc until

    step : (i : ℕ) (d : Lease) → (i < length leases) ⊎ (i ≡ length leases)
        → (get_or (leases ++ next_lease leases assessor topic doc until ∷ []) i d).number ≡ i + 1
    step i d (inl h) = ap (λ (l : Lease). l.number) (get_or_append_left leases (new ∷ []) d i h) ∙ numbered_at leases numbered i d h
    step i d (inr h) = ap (λ (l : Lease). l.number) (get_or_push leases new d i (sym h)) ∙ ap (λ n. n + 1) (sym h)

-- ---- an end

-- what the end of a lease makes of a lease
abbrev pub end_of : ℕ → LeaseEnd → Lease → Lease
end_of number how lease = cond (eqb lease.number number) (ended_lease how lease) lease

pub end_keeps : {X : Type 0} (read : Lease → X) (number : ℕ) (how : LeaseEnd) → ((lease : Lease) → read (ended_lease how lease) ≡ read lease)
    → (lease : Lease) → read (end_of number how lease) ≡ read lease
end_keeps read number how same lease = step (eqb lease.number number)
  where
    step : (t : Bool) → read (cond t (ended_lease how lease) lease) ≡ read lease
    step true = same lease
    step false = refl

-- a lease that has ended stays so
pub end_stays : (number : ℕ) (how : LeaseEnd) (lease : Lease) → is_none lease.end ≡ false → is_none (end_of number how lease).end ≡ false
end_stays number how lease e = step (eqb lease.number number)
  where
    step : (t : Bool) → is_none (cond t (ended_lease how lease) lease).end ≡ false
    step true = refl
    step false = e

-- and the lease of the number ends
pub end_ends : (leases : List Lease) (number : ℕ) (how : LeaseEnd) (d : Lease) → AreNumbered leases → 0 < number → number - 1 < length leases
    → is_none (end_of number how (get_or leases (number - 1) d)).end ≡ false
end_ends leases number how d numbered some within =
    let number_is : (get_or leases (number - 1) d).number ≡ number = let e = numbered_at leases numbered (number - 1) d within in omega arith in
    ap (λ t. is_none (cond t (ended_lease how (get_or leases (number - 1) d)) (get_or leases (number - 1) d)).end) (eq-eqb _ _ number_is)

pub end_numbered : (leases : List Lease) (number : ℕ) (how : LeaseEnd) → AreNumbered leases → AreNumbered (with_end leases number how)
end_numbered leases number how numbered =
    numbered_from (with_end leases number how) (λ i d h.
    let within : i < length leases = let long : length (map (end_of number how) leases) ≡ length leases =
    length-map leases (end_of number how) in omega (arith, long) in
    ap (λ (l : Lease). l.number) (get_or-map (end_of number how) leases i d d within)
    ∙ end_keeps (λ lease. lease.number) number how (λ lease. refl) (get_or leases i d) ∙ numbered_at leases numbered i d within)

-- a list whose elements stay is the same
map_stays : {X : Type 0} (g : X → X) (xs : List X) (d : X) → ((i : ℕ) → i < length xs → g (get_or xs i d) ≡ get_or xs i d) → xs ≡ map g xs
map_stays g [] d stays = refl
map_stays g (x ∷ xs) d stays =
    let first : g x ≡ x = stays zero (omega arith) in
    ap (λ y. y ∷ xs) (sym first) ∙ ap (λ ys. g x ∷ ys) (map_stays g xs d (λ i h. stays (suc i) (omega arith)))

-- a list in which one element changes
set_is_map : {X : Type 0} (g : X → X) (xs : List X) (place : ℕ) (d : X) → place < length xs
    → ((i : ℕ) → i < length xs → i ≢ place → g (get_or xs i d) ≡ get_or xs i d)
    → set xs place (g (get_or xs place d)) ≡ map g xs
set_is_map g [] place d h stays = absurd (omega arith)
set_is_map g (x ∷ xs) zero d h stays = ap (λ ys. g x ∷ ys) (map_stays g xs d (λ i lt. stays (suc i) (omega arith) (omega arith)))
set_is_map g (x ∷ xs) (suc place) d h stays =
    let first : g x ≡ x = stays zero (omega arith) (omega arith) in
    ap (λ y. y ∷ set xs place (g (get_or xs place d))) (sym first)
    ∙ ap (λ ys. g x ∷ ys) (set_is_map g xs place d (omega arith) (λ i lt apart. stays (suc i) (omega arith) (omega arith)))

pub end_is : (leases : List Lease) (number : ℕ) (how : LeaseEnd) (lease : Lease) → AreNumbered leases → 0 < number
    → number - 1 < length leases → lease ≡ get_or leases (number - 1) lease
    → set leases (number - 1) (ended_lease how lease) ≡ with_end leases number how
end_is leases number how lease numbered some within at =
    ap (set leases (number - 1)) changes ∙ set_is_map (end_of number how) leases (number - 1) lease within stays
  where
    changes : ended_lease how lease ≡ end_of number how (get_or leases (number - 1) lease)
    changes =
        let number_is : (get_or leases (number - 1) lease).number ≡ number = let e = numbered_at leases numbered (number - 1) lease within in omega arith in
        ap (ended_lease how) at
        ∙ sym (ap (λ t. cond t (ended_lease how (get_or leases (number - 1) lease)) (get_or leases (number - 1) lease)) (eq-eqb _ _ number_is))

    stays : (i : ℕ) → i < length leases → i ≢ number - 1 → end_of number how (get_or leases i lease) ≡ get_or leases i lease
    stays i h apart = step (eqb (get_or leases i lease).number number) refl
      where
        step : (t : Bool) → eqb (get_or leases i lease).number number ≡ t → end_of number how (get_or leases i lease) ≡ get_or leases i lease
        step true e = absurd (apart (let is = eqb-true _ _ e in let at_i = numbered_at leases numbered i lease h in omega arith))
        step false e = ap (λ t. cond t (ended_lease how (get_or leases i lease)) (get_or leases i lease)) e

-- a lease that is there has a number from 1
pub there : (leases : List Lease) (number : ℕ) (P : Lease → Type 0) → IsSomeAnd (desk_lease leases number) P → (0 < number) × (number - 1 < length leases)
there leases zero P h = absurd h
there leases (suc i) P h = (omega arith, within (slice_get leases i) refl)
  where
    within : (found : Option Lease) → slice_get leases i ≡ found → suc i - 1 < length leases
    within None e =
        let some : nat_lt 0 (suc i) ≡ true = lt-ltb 0 (suc i) (omega arith) in
        let back : suc i - 1 ≡ i = omega arith in
        let none : desk_lease leases (suc i) ≡ None = ap (λ t. cond t (slice_get leases (suc i - 1)) None) some ∙ ap (slice_get leases) back ∙ e in
        absurd (subst (λ found. IsSomeAnd found P) none h)
    within (Some lease) e = let lt = slice_get_within leases i lease e in omega (arith, lt)
