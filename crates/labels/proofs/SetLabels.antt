-- A label that is set.
use Rattle.std.proofs.Common.{◌≡◌, ℕ, zero, suc, ◌<◌, ◌≤◌, Bool, true, false, cond, not, ◌||◌, nat_lt, List, [], ◌∷◌, ◌++◌, length, get_or, set, Some, None, refl, sym, ap, ◌∙◌, arith}
use Rattle.std.specs.List.{list_any, position, position_or_len}
use Rattle.std.specs.Str.{bytes_eq}
use Rattle.std.proofs.lemmas.Bool.Decides.{nat_tests}
use Rattle.std.proofs.lemmas.Cmp.{nat_list_eq_equiv}
use Rattle.std.proofs.lemmas.List.Folds.{list_any_none}
use Rattle.std.proofs.lemmas.List.Sums.{prefix_len_passes}
use Rattle.std.proofs.lemmas.Bool.{not-true}
use Rattle.labels.specs.declared.given.Given.{Given}
use Rattle.labels.specs.DocumentLabels.{IsOncePerAssessor, has_label, with_label}

-- where no element passes, there is no first that does
pub none_passes : {X : Type 0} (p : X → Bool) (xs : List X) → position p xs ≡ None → list_any p xs ≡ false
none_passes {X} p xs none = step (nat_lt (position_or_len p xs) (length xs)) refl none
  where
    step : (t : Bool) → nat_lt (position_or_len p xs) (length xs) ≡ t → cond t (Some (position_or_len p xs)) None ≡ None → list_any p xs ≡ false
    step true e h = absurd (cc)
    step false e h =
        let all : length xs ≤ position_or_len p xs = grind (arith, nat_tests) in
        list_any_none p xs (λ k d lt. not-true _ (prefix_len_passes (λ x. not (p x)) xs k d (omega arith)))

-- a new assessor's label goes last
pub set_new : (assessor : List ℕ) (grade : ℕ) (labels : List Given) → has_label assessor labels ≡ false
    → labels ++ record { assessor = assessor; grade = grade } ∷ [] ≡ with_label assessor grade labels
set_new assessor grade [] none = refl
set_new assessor grade (label ∷ labels) none = step (set_new assessor grade labels) (bytes_eq label.assessor assessor) none
  where
    step : (has_label assessor labels ≡ false → labels ++ record { assessor = assessor; grade = grade } ∷ [] ≡ with_label assessor grade labels)
        → (t : Bool) → (t || has_label assessor labels) ≡ false
        → label ∷ (labels ++ record { assessor = assessor; grade = grade } ∷ [])
        ≡ cond t (record { assessor = label.assessor; grade = grade } ∷ labels) (label ∷ with_label assessor grade labels)
    step rest true h = absurd (cc)
    step rest false h = ap (λ more. label ∷ more) (rest h)

-- the first label of the assessor gets the grade
pub set_again : (assessor : List ℕ) (grade : ℕ) (labels : List Given) (i : ℕ) (was : Given) → i < length labels → was ≡ get_or labels i was
    → bytes_eq was.assessor assessor ≡ true → ((k : ℕ) → k < i → bytes_eq (get_or labels k was).assessor assessor ≡ false)
    → set labels i (record { assessor = was.assessor; grade = grade }) ≡ with_label assessor grade labels
set_again assessor grade [] i was h is own before = absurd (omega arith)
set_again assessor grade (label ∷ labels) zero was h is own before =
    let changed : Given → List Given = λ l. record { assessor = l.assessor; grade = grade } ∷ labels in
    let here : bytes_eq label.assessor assessor ≡ true = ap (λ (l : Given). bytes_eq l.assessor assessor) (sym is) ∙ own in
    ap changed is ∙ sym (ap (λ t. cond t (changed label) (label ∷ with_label assessor grade labels)) here)
set_again assessor grade (label ∷ labels) (suc i) was h is own before =
    let changed : Given → List Given = λ l. record { assessor = l.assessor; grade = grade } ∷ labels in
    ap (λ rest. label ∷ rest) (set_again assessor grade labels i was (omega arith) is own (λ k lt. before (suc k) (omega arith)))
    ∙ sym (ap (λ t. cond t (changed label) (label ∷ with_label assessor grade labels)) (before 0 (omega arith)))

-- ---- each assessor has one label at most

-- an assessor without a label has none after another's is set
other_has_none : (other assessor : List ℕ) (grade : ℕ) (labels : List Given) → has_label other labels ≡ false → bytes_eq assessor other ≡ false
    → has_label other (with_label assessor grade labels) ≡ false
other_has_none other assessor grade [] none apart = ap (λ t. t || false) apart
other_has_none other assessor grade (label ∷ labels) none apart =
    step (λ h. other_has_none other assessor grade labels h apart) (bytes_eq label.assessor assessor) (bytes_eq label.assessor other) refl none
  where
    step : (has_label other labels ≡ false → has_label other (with_label assessor grade labels) ≡ false) → (t u : Bool)
        → bytes_eq label.assessor other ≡ u → (u || has_label other labels) ≡ false
        → has_label other (cond t (record { assessor = label.assessor; grade = grade } ∷ labels) (label ∷ with_label assessor grade labels)) ≡ false
    step rest t true e h = absurd (cc)
    step rest true false e h = ap (λ u. u || has_label other labels) e ∙ h
    step rest false false e h = ap (λ u. u || has_label other (with_label assessor grade labels)) e ∙ rest h

pub once_after_set : (assessor : List ℕ) (grade : ℕ) (labels : List Given) → IsOncePerAssessor labels → IsOncePerAssessor (with_label assessor grade labels)
once_after_set assessor grade [] once = (refl, tt)
once_after_set assessor grade (label ∷ labels) once =
    step (once_after_set assessor grade labels once.1) (bytes_eq label.assessor assessor) refl
  where
    step : IsOncePerAssessor (with_label assessor grade labels) → (t : Bool) → bytes_eq label.assessor assessor ≡ t
        → IsOncePerAssessor (cond t (record { assessor = label.assessor; grade = grade } ∷ labels) (label ∷ with_label assessor grade labels))
    step rest true e = once
    step rest false e = (other_has_none label.assessor assessor grade labels once.0 (nat_list_eq_equiv.symm assessor label.assessor ∙ e), rest)
