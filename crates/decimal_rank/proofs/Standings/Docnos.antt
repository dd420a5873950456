-- Documents in the order of their docnos.
use Rattle.std.proofs.Common.{Less, Equal, Greater, ◌≡◌, ◌≢◌, ℕ, ◌<◌, true, false, List, [], length, refl, sym, ◌∙◌, arith, ◌⊎◌, ⊎_elim}
use Rattle.std.specs.List.{IsDistinct}
use Rattle.std.specs.Ordering.{is_eq, is_lt, ordering_reverse}
use Rattle.std.specs.declared.cmp.Ordering.{Ordering}
use Rattle.std.specs.Str.{bytes_eq}
use Rattle.std.proofs.lemmas.Bool.{false≢true}
use Rattle.std.proofs.lemmas.Cmp.{nat_list_eq_equiv}
use Rattle.std.proofs.lemmas.Map.Keys.{apart_from_distinct}
use Rattle.decimal_rank.specs.Names.{docno_of}

lower_or_higher : (m n : ℕ) → m ≢ n → (m < n) ⊎ (n < m)
lower_or_higher m n h = grind arith

-- two numbers have two names
pub names_differ : (names : List (List ℕ)) (m n : ℕ) → IsDistinct bytes_eq names → m ≢ n → m < length names
    → n < length names → bytes_eq (docno_of names m) (docno_of names n) ≡ false
names_differ names m n distinct apart low high =
    ⊎_elim (λ less. apart_from_distinct bytes_eq names m n [] distinct less high)
    (λ more. nat_list_eq_equiv.symm (docno_of names m) (docno_of names n) ∙ apart_from_distinct bytes_eq names n m [] distinct more low)
    (lower_or_higher m n apart)

-- what stands neither equal nor behind stands before
pub strictly : (order : Ordering) → is_eq order ≡ false → is_lt (ordering_reverse order) ≡ false → is_lt order ≡ true
strictly Less differ far = refl
strictly Equal differ far = absurd (false≢true (sym differ))
strictly Greater differ far = absurd (false≢true (sym far))
