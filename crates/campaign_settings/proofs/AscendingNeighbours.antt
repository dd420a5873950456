-- A list is in ascending order by a text of each element where each two neighbours are.
use Rattle.std.proofs.Common.{◌≡◌, ◌<◌, ◌+◌, ◌&&◌, ℕ, zero, suc, Bool, true, false, List, [], ◌∷◌, arith, length, map, refl, subst, sym}
use Rattle.std.specs.Cmp.Lexicographic.{slice_cmp}
use Rattle.std.specs.List.{AllAdjacentBelow, IsAllAdjacentAnswer, slice_index_or}
use Rattle.std.specs.Ordering.{is_lt, nat_cmp}
use Rattle.std.proofs.lemmas.Bool.{and_right}
use Rattle.rulebook.specs.Spelling.{is_ascending}

behind : (k : ℕ) → suc k + 1 ≡ suc (k + 1)
behind k = omega arith

both : (a b : Bool) → true ≡ a → b ≡ true → (a && b) ≡ true
both true b e f = f
both false b e f = sym e

first_fails : (a b : Bool) → false ≡ a → (a && b) ≡ false
first_fails true b e = absurd (cc e)
first_fails false b e = refl

module _ {X : Type 0} (text : X → List ℕ) where
  abbrev pub is_before : X → X → Bool
  is_before x y = is_lt (slice_cmp nat_cmp (text x) (text y))

  each_before : (xs : List X) → AllAdjacentBelow (λ x y. true ≡ is_before x y) xs (length xs) → is_ascending (map text xs) ≡ true
  each_before [] each = refl
  each_before (x ∷ []) each = refl
  each_before (x ∷ y ∷ rest) each =
      both (is_before x y) (is_ascending (map text (y ∷ rest))) (each zero x (omega arith))
      (each_before (y ∷ rest)
      (λ k d within. subst (λ next. true ≡ is_before (slice_index_or (y ∷ rest) k d) (slice_index_or (x ∷ y ∷ rest) next d))
      (behind k) (each (suc k) d (omega (arith, within)))))

  one_fails : (xs : List X) (k : ℕ) → k + 1 < length xs → ((d : X) → false ≡ is_before (slice_index_or xs k d) (slice_index_or xs (k + 1) d))
      → is_ascending (map text xs) ≡ false
  one_fails [] k within fails = absurd (omega (arith, within))
  one_fails (x ∷ []) k within fails = absurd (omega (arith, within))
  one_fails (x ∷ y ∷ rest) zero within fails = first_fails (is_before x y) (is_ascending (map text (y ∷ rest))) (fails x)
  one_fails (x ∷ y ∷ rest) (suc k) within fails =
      and_right (is_before x y) (is_ascending (map text (y ∷ rest)))
      (one_fails (y ∷ rest) k (omega (arith, within))
      (λ d. subst (λ next. false ≡ is_before (slice_index_or (y ∷ rest) k d) (slice_index_or (x ∷ y ∷ rest) next d)) (behind k) (fails d)))

  pub ascending : (xs : List X) (result : Bool) → IsAllAdjacentAnswer (λ x y b. b ≡ is_before x y) xs result → result ≡ is_ascending (map text xs)
  ascending xs true each = sym (each_before xs each)
  ascending xs false fails = sym (one_fails xs fails.0 fails.1 fails.2)
