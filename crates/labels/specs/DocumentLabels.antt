-- The labels of one document.
use Rattle.std.specs.Prelude.{◌≡◌, ℕ, Bool, false, List, [], ◌∷◌, Option, find, map, if◌then◌else◌}
use Rattle.std.specs.List.{list_any}
use Rattle.std.specs.Option.{option_map}
use Rattle.std.specs.Str.{bytes_eq}
use Rattle.labels.specs.declared.given.Given.{Given}

-- the last label of each assessor in the order of their first labels, the last ruling, and the room for more labels
pub record Labelled : Type 0 where
  pub given : List Given
  pub ruling : Option ℕ
  pub spare : ℕ

-- the labels after an assessor gives a grade: it takes the place of this assessor's label, and else goes last
abbrev pub with_label : List ℕ → ℕ → List Given → List Given
with_label assessor grade [] = (record { assessor = assessor; grade = grade }) ∷ []
with_label assessor grade (label ∷ labels) =
    if bytes_eq label.assessor assessor then record label { grade = grade } ∷ labels else label ∷ with_label assessor grade labels

-- whether an assessor has a label
abbrev pub has_label : List ℕ → List Given → Bool
has_label assessor given = list_any (λ label. bytes_eq label.assessor assessor) given

-- the grade of an assessor's label
abbrev pub label_grade : List ℕ → List Given → Option ℕ
label_grade assessor given = option_map (λ label. label.grade) (find (λ label. bytes_eq label.assessor assessor) given)

-- the grades of the labels
abbrev pub grades_of : List Given → List ℕ
grades_of given = map (λ label. label.grade) given

-- each assessor has one label at most
abbrev pub IsOncePerAssessor : List Given → Type 0
IsOncePerAssessor [] = Unit {0}
IsOncePerAssessor (label ∷ labels) = (has_label label.assessor labels ≡ false) × IsOncePerAssessor labels
