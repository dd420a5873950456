-- A document that is done for an assessor stays so.
use Rattle.std.proofs.Common.{◌≡◌, ◌≤◌, ◌+◌, ◌||◌, ◌&&◌, ◌⊎◌, inl, inr, ℕ, Bool, true, false, cond, List, [], ◌∷◌, Option, Some, None, length, refl, ap, ◌∙◌, arith, le-leb, leb-true, nat_le, eqb-true}
use Rattle.std.specs.Prelude.{◌==◌}
use Rattle.std.specs.List.{list_all}
use Rattle.std.specs.Option.{is_some}
use Rattle.std.specs.Str.{bytes_eq}
use Rattle.std.proofs.lemmas.Bool.{false≢true}
use Rattle.std.proofs.lemmas.List.{length-map}
use Rattle.std.proofs.Math.Bool.{or-true}
use Rattle.decimal_rank.specs.declared.naming.DocId.{DocId}
use Rattle.labels.specs.Grades.{common_grade, effective_grade}
use Rattle.labels.specs.DocumentLabels.{grades_of, has_label, with_label}
use Rattle.labels.specs.LabelledDocuments.{LabelledDocument, given_at, ruling_at, with_label_at, with_ruling_at}
use Rattle.labels.specs.declared.given.Given.{Given}
use Rattle.assessment.specs.Fronts.{is_done}

-- whether a document with these labels and this ruling is done
abbrev is_done_by : ℕ → List ℕ → List Given → Option ℕ → Bool
is_done_by need assessor given ruling = nat_le need (length given) || is_some (effective_grade need (grades_of given) ruling) || has_label assessor given

-- why it is
abbrev IsWhy : ℕ → List ℕ → List Given → Option ℕ → Type 0
IsWhy need assessor given ruling = (need ≤ length given) ⊎ (is_some ruling ≡ true) ⊎ (has_label assessor given ≡ true)

-- ---- why a document is done

-- a grade without a ruling is that of as many labels as are needed
common-many : (need : ℕ) (grades : List ℕ) → is_some (common_grade need grades) ≡ true → need ≤ length grades
common-many need [] e = absurd (false≢true e)
common-many need (grade ∷ grades) e = step (length grades + 1 == need) refl e
  where
    step : (t : Bool) → (length grades + 1 == need) ≡ t → is_some (cond (t && list_all (λ other. other == grade) grades) (Some grade) None) ≡ true
        → need ≤ length (grade ∷ grades)
    step true is e = let same : length grades + 1 ≡ need = eqb-true (length grades + 1) need is in omega (arith, same)
    step false is e = absurd (false≢true e)

effective-why : (need : ℕ) (given : List Given) (ruling : Option ℕ) → is_some (effective_grade need (grades_of given) ruling) ≡ true
    → (need ≤ length given) ⊎ (is_some ruling ≡ true)
effective-why need given (Some grade) e = inr refl
effective-why need given None e = inl (omega (arith, common-many need (grades_of given) e, length-map given (λ (label : Given). label.grade)))

why-done : (need : ℕ) (assessor : List ℕ) (given : List Given) (ruling : Option ℕ)
    → is_done_by need assessor given ruling ≡ true → IsWhy need assessor given ruling
why-done need assessor given ruling e = step (nat_le need (length given)) (is_some (effective_grade need (grades_of given) ruling)) refl refl e
  where
    graded : (need ≤ length given) ⊎ (is_some ruling ≡ true) → IsWhy need assessor given ruling
    graded (inl many) = inl many
    graded (inr ruled) = inr (inl ruled)

    step : (t u : Bool) → nat_le need (length given) ≡ t → is_some (effective_grade need (grades_of given) ruling) ≡ u
        → (t || u || has_label assessor given) ≡ true → IsWhy need assessor given ruling
    step true u many is e = inl (leb-true need (length given) many)
    step false true many is e = graded (effective-why need given ruling is)
    step false false many is e = inr (inr e)

any-middle : (a b c : Bool) → b ≡ true → (a || b || c) ≡ true
any-middle true true c e = refl
any-middle false true c e = refl
any-middle a false c e = absurd (false≢true e)

effective-ruled : (need : ℕ) (grades : List ℕ) (ruling : Option ℕ) → is_some ruling ≡ true → is_some (effective_grade need grades ruling) ≡ true
effective-ruled need grades (Some grade) e = refl
effective-ruled need grades None e = absurd (false≢true e)

done-why : (need : ℕ) (assessor : List ℕ) (given : List Given) (ruling : Option ℕ)
    → IsWhy need assessor given ruling → is_done_by need assessor given ruling ≡ true
done-why need assessor given ruling (inl many) =
    ap (λ t. t || is_some (effective_grade need (grades_of given) ruling) || has_label assessor given) (le-leb need (length given) many)
done-why need assessor given ruling (inr (inl ruled)) =
    any-middle (nat_le need (length given)) (is_some (effective_grade need (grades_of given) ruling))
    (has_label assessor given) (effective-ruled need (grades_of given) ruling ruled)
done-why need assessor given ruling (inr (inr labelled)) =
    ap (λ t. nat_le need (length given) || is_some (effective_grade need (grades_of given) ruling) || t) labelled
    ∙ or-true (nat_le need (length given) || is_some (effective_grade need (grades_of given) ruling))

-- ---- more labels

longer : (t : Bool) (label other : Given) (labels more : List Given) → length labels ≤ length more
    → length (label ∷ labels) ≤ length (cond t (other ∷ labels) (label ∷ more))
longer true label other labels more rest = omega arith
longer false label other labels more rest = omega (arith, rest)

labels-grow : (by : List ℕ) (grade : ℕ) (given : List Given) → length given ≤ length (with_label by grade given)
labels-grow by grade [] = omega arith
labels-grow by grade (label ∷ labels) =
    longer (bytes_eq label.assessor by) label (record label { grade = grade }) labels (with_label by grade labels) (labels-grow by grade labels)

label-stays : (assessor by : List ℕ) (grade : ℕ) (given : List Given) → has_label assessor given ≡ true → has_label assessor (with_label by grade given) ≡ true
label-stays assessor by grade [] e = absurd (false≢true e)
label-stays assessor by grade (label ∷ labels) e =
    step (bytes_eq label.assessor by) (bytes_eq label.assessor assessor) refl e (label-stays assessor by grade labels)
  where
    step : (t u : Bool) → bytes_eq label.assessor assessor ≡ u → (u || has_label assessor labels) ≡ true
        → (has_label assessor labels ≡ true → has_label assessor (with_label by grade labels) ≡ true)
        → has_label assessor (cond t (record label { grade = grade } ∷ labels) (label ∷ with_label by grade labels)) ≡ true
    step true u is e rest = ap (λ t. t || has_label assessor labels) is ∙ e
    step false true is e rest = ap (λ t. t || has_label assessor (with_label by grade labels)) is
    step false false is e rest = ap (λ t. t || has_label assessor (with_label by grade labels)) is ∙ rest e

done-labelled : (need : ℕ) (assessor by : List ℕ) (grade : ℕ) (given : List Given) (ruling : Option ℕ)
    → is_done_by need assessor given ruling ≡ true → is_done_by need assessor (with_label by grade given) ruling ≡ true
done-labelled need assessor by grade given ruling e = done-why need assessor (with_label by grade given) ruling (step (why-done need assessor given ruling e))
  where
    step : IsWhy need assessor given ruling → IsWhy need assessor (with_label by grade given) ruling
    step (inl many) = inl (omega (arith, many, labels-grow by grade given))
    step (inr (inl ruled)) = inr (inl ruled)
    step (inr (inr labelled)) = inr (inr (label-stays assessor by grade given labelled))

-- a document stays done where another label is given
pub done-label : (need : ℕ) (assessor : List ℕ) (doc : DocId) (by : List ℕ) (grade : ℕ) (marked : List LabelledDocument) (other : DocId)
    → is_done need marked assessor other ≡ true → is_done need (with_label_at doc by grade marked) assessor other ≡ true
done-label need assessor doc by grade [] other e = step (other.0 == doc.0) (done-labelled need assessor by grade [] None e)
  where
    step : (t : Bool) → is_done_by need assessor (with_label by grade []) None ≡ true
        → is_done_by need assessor (cond t (with_label by grade []) []) (cond t None None) ≡ true
    step true more = more
    step false more = e
done-label need assessor doc by grade (one ∷ later) other e = step (doc.0 == one.doc.0) e (done-label need assessor doc by grade later other)
  where
    here : (t : Bool) → is_done_by need assessor (cond t one.given (given_at later other)) (cond t one.ruling (ruling_at later other)) ≡ true
        → is_done_by need assessor (cond t (with_label by grade one.given) (given_at later other)) (cond t one.ruling (ruling_at later other)) ≡ true
    here true e = done-labelled need assessor by grade one.given one.ruling e
    here false e = e

    there : (t : Bool) → is_done_by need assessor (cond t one.given (given_at later other)) (cond t one.ruling (ruling_at later other)) ≡ true
        → (is_done need later assessor other ≡ true → is_done need (with_label_at doc by grade later) assessor other ≡ true)
        → is_done_by need assessor (cond t one.given (given_at (with_label_at doc by grade later) other))
        (cond t one.ruling (ruling_at (with_label_at doc by grade later) other)) ≡ true
    there true e rest = e
    there false e rest = rest e

    step : (s : Bool) → is_done need (one ∷ later) assessor other ≡ true
        → (is_done need later assessor other ≡ true → is_done need (with_label_at doc by grade later) assessor other ≡ true)
        → is_done need (cond s (record one { given = with_label by grade one.given } ∷ later) (one ∷ with_label_at doc by grade later)) assessor other ≡ true
    step true e rest = here (other.0 == one.doc.0) e
    step false e rest = there (other.0 == one.doc.0) e rest

-- ---- a ruling

done-ruled : (need : ℕ) (assessor : List ℕ) (grade : ℕ) (given : List Given) → is_done_by need assessor given (Some grade) ≡ true
done-ruled need assessor grade given = done-why need assessor given (Some grade) (inr (inl refl))

pub done-ruling : (need : ℕ) (assessor : List ℕ) (doc : DocId) (grade : ℕ) (marked : List LabelledDocument) (other : DocId)
    → is_done need marked assessor other ≡ true → is_done need (with_ruling_at doc grade marked) assessor other ≡ true
done-ruling need assessor doc grade [] other e = e
done-ruling need assessor doc grade (one ∷ later) other e = step (doc.0 == one.doc.0) e (done-ruling need assessor doc grade later other)
  where
    here : (t : Bool) → is_done_by need assessor (cond t one.given (given_at later other)) (cond t one.ruling (ruling_at later other)) ≡ true
        → is_done_by need assessor (cond t one.given (given_at later other)) (cond t (Some grade) (ruling_at later other)) ≡ true
    here true e = done-ruled need assessor grade one.given
    here false e = e

    there : (t : Bool) → is_done_by need assessor (cond t one.given (given_at later other)) (cond t one.ruling (ruling_at later other)) ≡ true
        → (is_done need later assessor other ≡ true → is_done need (with_ruling_at doc grade later) assessor other ≡ true)
        → is_done_by need assessor (cond t one.given (given_at (with_ruling_at doc grade later) other))
        (cond t one.ruling (ruling_at (with_ruling_at doc grade later) other)) ≡ true
    there true e rest = e
    there false e rest = rest e

    step : (s : Bool) → is_done need (one ∷ later) assessor other ≡ true
        → (is_done need later assessor other ≡ true → is_done need (with_ruling_at doc grade later) assessor other ≡ true)
        → is_done need (cond s (record one { ruling = Some grade } ∷ later) (one ∷ with_ruling_at doc grade later)) assessor other ≡ true
    step true e rest = here (other.0 == one.doc.0) e
    step false e rest = there (other.0 == one.doc.0) e rest

-- ---- where one label is enough

some-label : (assessor : List ℕ) (given : List Given) → has_label assessor given ≡ true → 1 ≤ length given
some-label assessor [] e = absurd (false≢true e)
some-label assessor (label ∷ labels) e = omega arith

-- what is done for one is done for all
pub done-for-all : (need : ℕ) (marked : List LabelledDocument) (one other : List ℕ) (doc : DocId) → need ≤ 1
    → is_done need marked one doc ≡ true → is_done need marked other doc ≡ true
done-for-all need marked one other doc few e =
    done-why need other (given_at marked doc) (ruling_at marked doc) (step (why-done need one (given_at marked doc) (ruling_at marked doc) e))
  where
    step : IsWhy need one (given_at marked doc) (ruling_at marked doc) → IsWhy need other (given_at marked doc) (ruling_at marked doc)
    step (inl many) = inl many
    step (inr (inl ruled)) = inr (inl ruled)
    step (inr (inr labelled)) = inl (omega (arith, few, some-label one (given_at marked doc) labelled))
