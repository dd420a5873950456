-- A list of different elements that all stand in a list of the same length has the elements of that list.
use Rattle.std.proofs.Common.{◌≡◌, ◌≢◌, zero, suc, List, [], ◌∷◌, length, get_or, sym, arith}
use Rattle.std.specs.Prelude.{All, AllPairs, Contains, IsPermutation, remove}
use Rattle.std.proofs.lemmas.List.{nil_from_length}
use Rattle.std.proofs.lemmas.List.Sorted.{IsPermutation-refl, IsPermutation-sym, IsPermutation-cons, IsPermutation-trans, IsPermutation-remove, Contains-permutation, length_permutation}
use Rattle.decimal_rank.proofs.Lists.{pairs_head, pairs_tail}

-- an element of a list with a first one is the first or stands behind it
contains_behind : {X : Type 0} (x y : X) (ys : List X) → Contains (y ∷ ys) x → (y ≢ x) → Contains ys x
contains_behind x y ys (zero, within, is) other = absurd (other is)
contains_behind x y ys (suc k, within, is) other = (k, omega arith, is)

pub permuted : {X : Type 0} (xs ys : List X) → AllPairs (λ a b. a ≢ b) xs → All (Contains ys) xs → length xs ≡ length ys → IsPermutation xs ys
permuted [] ys differ inside same = let none : ys ≡ [] = nil_from_length ys (sym same) in rw none (IsPermutation-refl [])
permuted {X} (x ∷ xs) ys differ inside same =
    let here : Contains ys x = inside zero x (omega arith) in
    let rest = remove ys here.0 in
    let moved : IsPermutation ys (x ∷ rest) = IsPermutation-remove ys here.0 x here.1 (sym here.2) in
    let long : length (x ∷ rest) ≡ length ys = length_permutation ys (x ∷ rest) moved in
    let apart = pairs_head (λ a b. a ≢ b) x xs differ in
    let inner : All (Contains rest) xs = λ k d within.
    contains_behind (get_or xs k d) x rest (Contains-permutation ys (x ∷ rest) (get_or xs k d) moved (inside (suc k) d (omega arith))) (apart k d within) in
    let later = permuted xs rest (pairs_tail (λ a b. a ≢ b) x xs differ) inner (omega (arith, same, long)) in
    IsPermutation-trans (x ∷ xs) (x ∷ rest) ys (IsPermutation-cons x xs rest later) (IsPermutation-sym ys (x ∷ rest) moved)
