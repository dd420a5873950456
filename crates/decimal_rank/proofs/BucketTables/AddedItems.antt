-- One more item in a table of buckets.
use Rattle.std.proofs.Common.{◌≡◌, ◌≢◌, ℕ, zero, suc, ◌+◌, ◌<◌, ◌≤◌, List, [], ◌∷◌, ◌++◌, length, Some, None, Option, slice_get, refl, sym, ◌∙◌, arith, ◌⊎◌, inl, inr}
use Rattle.std.proofs.lemmas.Option.{same_Some, slice_get_within}
use Rattle.decimal_rank.specs.Tables.Buckets.{IsNewest}
use Rattle.decimal_rank.proofs.Lists.{slice-last}

-- what stands in a list before its last element
pub get-before : {X : Type 0} (xs : List X) (x : X) (i : ℕ) → i < length xs → slice_get (xs ++ x ∷ []) i ≡ slice_get xs i
get-before [] x i h = absurd (omega arith)
get-before (y ∷ ys) x zero h = refl
get-before (y ∷ ys) x (suc i) h = get-before ys x i (omega arith)

-- an element of the longer list
pub get-cases : {X : Type 0} (xs : List X) (x y : X) (i : ℕ) → slice_get (xs ++ x ∷ []) i ≡ Some y
    → ((i < length xs) × (slice_get xs i ≡ Some y)) ⊎ ((i ≡ length xs) × (x ≡ y))
get-cases [] x y zero e = inr (refl, same_Some x y e)
get-cases [] x y (suc i) e = absurd (omega (arith, slice_get_within [] i y e))
get-cases (z ∷ zs) x y zero e = inl (omega arith, e)
get-cases (z ∷ zs) x y (suc i) e =
    elim (get-cases zs x y i e) as (λ _. ((suc i < length (z ∷ zs)) × (slice_get (z ∷ zs) (suc i) ≡ Some y)) ⊎ ((suc i ≡ length (z ∷ zs)) × (x ≡ y)))
    [ inl p ↦ inl (omega (arith, p.0), p.1) | inr p ↦ inr (omega (arith, p.0), p.1) ]

-- below a bound within the table nothing changes
pub newest-stays : (items : List ℕ) (more bound bucket : ℕ) (found : Option ℕ) → bound ≤ length items
    → IsNewest items bound bucket found → IsNewest (items ++ more ∷ []) bound bucket found
newest-stays items more bound bucket None within h = λ i below e. h i below (sym (get-before items more i (omega arith)) ∙ e)
newest-stays items more bound bucket (Some at) within h = (
  h.0,
  get-before items more at (omega (arith, h.0)) ∙ h.1,
  λ i above below e. h.2 i above below (sym (get-before items more i (omega arith)) ∙ e),
)

-- the new item is the newest of its bucket
pub newest-new : (items : List ℕ) (bucket : ℕ) → IsNewest (items ++ bucket ∷ []) (length items + 1) bucket (Some (length items))
newest-new items bucket = (omega arith, slice-last items bucket, λ i above below e. absurd (omega arith))

-- another bucket's newest item stays
pub newest-other : (items : List ℕ) (more bucket : ℕ) (found : Option ℕ) → bucket ≢ more
    → IsNewest items (length items) bucket found → IsNewest (items ++ more ∷ []) (length items + 1) bucket found
newest-other items more bucket None other h = λ i below e.
    elim (get-cases items more bucket i e) as (λ _. ⊥) [ inl p ↦ h i p.0 p.1 | inr p ↦ other (sym p.1) ]
newest-other items more bucket (Some at) other h = (
  omega (arith, h.0),
  get-before items more at h.0 ∙ h.1,
  λ i above below e. elim (get-cases items more bucket i e) as (λ _. ⊥) [ inl p ↦ h.2 i above p.0 p.1 | inr p ↦ other (sym p.1) ],
)
