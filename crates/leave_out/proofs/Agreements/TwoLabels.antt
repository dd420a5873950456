-- The grades of a document that has two labels.
use Rattle.std.proofs.Common.{◌≡◌, ◌≤◌, List, [], ◌∷◌, length, refl, arith}
use Rattle.std.specs.Prelude.{slice_get}
use Rattle.labels.specs.declared.given.Given.{Given}
use Rattle.labels.specs.DocumentLabels.{grades_of}
use Rattle.leave_out.specs.Agreement.{two_grades, two_of}

-- of at most two labels the first two are all
pub two-there : (given : List Given) → length given ≤ 2 → two_of (slice_get (grades_of given) 0 ∷ slice_get (grades_of given) 1 ∷ []) ≡ two_grades given
two-there [] few = refl
two-there (a ∷ []) few = refl
two-there (a ∷ b ∷ []) few = refl
two-there (a ∷ b ∷ c ∷ more) few = absurd (omega (arith, few))
