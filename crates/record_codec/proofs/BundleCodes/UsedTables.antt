-- What was used stands in the table of what is used, at its index.
use Rattle.std.proofs.Common.{◌≡◌, ℕ, zero, suc, ◌||◌, Bool, true, false, List, [], ◌∷◌, ◌++◌, Some, refl, sym, ap}
use Rattle.std.specs.Prelude.{if◌then◌else◌, slice_get}
use Rattle.std.specs.List.{AllByRecursion, fold, list_any}
use Rattle.decimal_rank.proofs.Lists.{any_front}
use Rattle.record_codec.specs.Tables.{index_of, with_use}

any_last : {X : Type 0} (p : X → Bool) (xs : List X) (x : X) → p x ≡ true → list_any p (xs ++ x ∷ []) ≡ true
any_last p [] x is = rw is refl
any_last p (y ∷ xs) x is = by (p y) (any_last p xs x is)
  where
    by : (b : Bool) → list_any p (xs ++ x ∷ []) ≡ true → (b || list_any p (xs ++ x ∷ [])) ≡ true
    by true later = refl
    by false later = later

-- a test that tells things apart
module _ {X : Type 0} (same : X → X → Bool) (alike : (x y : X) → same x y ≡ true → x ≡ y)
    (itself : (x : X) → same x x ≡ true) where
  pub at_index : (table : List X) (x : X) → list_any (same x) table ≡ true
      → slice_get table (index_of same table x) ≡ Some x
  at_index [] x there = absurd cc
  at_index (y ∷ table) x there = by (same x y) refl there (at_index table x)
    where
      by : (b : Bool) → same x y ≡ b → (b || list_any (same x) table) ≡ true
          → (list_any (same x) table ≡ true → slice_get table (index_of same table x) ≡ Some x)
          → slice_get (y ∷ table) (if b then zero else suc (index_of same table x)) ≡ Some x
      by true is there later = ap Some (sym (alike x y is))
      by false is there later = later there

  still_there : (table : List X) (x y : X) → list_any (same x) table ≡ true
      → list_any (same x) (with_use same table y) ≡ true
  still_there table x y there = by (list_any (same y) table)
    where
      by : (b : Bool) → list_any (same x) (if b then table else table ++ y ∷ []) ≡ true
      by true = there
      by false = any_front (same x) table (y ∷ []) there

  now_there : (table : List X) (x : X) → list_any (same x) (with_use same table x) ≡ true
  now_there table x = by (list_any (same x) table) refl
    where
      by : (b : Bool) → list_any (same x) table ≡ b → list_any (same x) (if b then table else table ++ x ∷ []) ≡ true
      by true is = is
      by false is = any_last (same x) table x (itself x)

  stays : (table uses : List X) (x : X) → list_any (same x) table ≡ true
      → list_any (same x) (fold (with_use same) table uses) ≡ true
  stays table [] x there = there
  stays table (y ∷ uses) x there = stays (with_use same table y) uses x (still_there table x y there)

  -- each use stands in the table
  pub uses_stand : (table uses : List X)
      → AllByRecursion (λ x. list_any (same x) (fold (with_use same) table uses) ≡ true) uses
  uses_stand table [] = tt
  uses_stand table (x ∷ uses) = (
    stays (with_use same table x) uses x (now_there table x),
    uses_stand (with_use same table x) uses,
  )
