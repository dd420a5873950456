-- A part that stands in a text is found there.
use Rattle.std.proofs.Common.{◌≡◌, ℕ, nat_eq, Bool, true, false, cond, List, [], ◌∷◌, ◌++◌, Some, drop, length, is_some, refl, ap}
use Rattle.std.specs.List.{starts_with}
use Rattle.std.proofs.lemmas.Bool.Decides.{Decides-eqb}
use Rattle.std.proofs.lemmas.Slice.Eq.{starts_is}
use Rattle.drill.specs.Answers.{behind_part}

begins : (part rest : List ℕ) → starts_with nat_eq (part ++ rest) part ≡ true
begins part rest = (starts_is Decides-eqb (part ++ rest) part (starts_with nat_eq (part ++ rest) part) refl).1 rest refl

pub found : (b : ℕ) (more front rest : List ℕ) → is_some (behind_part (b ∷ more) (front ++ ((b ∷ more) ++ rest))) ≡ true
found b more [] rest =
    ap (λ t. is_some (cond t (Some (drop (length (b ∷ more)) ((b ∷ more) ++ rest))) (behind_part (b ∷ more) (more ++ rest)))) (begins (b ∷ more) rest)
found b more (x ∷ front) rest = step (starts_with nat_eq (x ∷ (front ++ ((b ∷ more) ++ rest))) (b ∷ more)) (found b more front rest)
  where
    step : (t : Bool) → is_some (behind_part (b ∷ more) (front ++ ((b ∷ more) ++ rest))) ≡ true
        → is_some (cond t (Some (drop (length (b ∷ more)) (x ∷ (front ++ ((b ∷ more) ++ rest))))) (behind_part (b ∷ more) (front ++ ((b ∷ more) ++ rest))))
        ≡ true
    step true later = refl
    step false later = later
