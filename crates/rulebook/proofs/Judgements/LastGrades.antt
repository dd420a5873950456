-- The label of an assessor on a document is the last grade that they gave it.
use Rattle.std.proofs.Common.{◌≡◌, ℕ, Bool, true, false, List, [], ◌∷◌, ◌++◌, Option, None, Some, refl, sym, ap, ◌∙◌}
use Rattle.std.specs.Prelude.{if◌then◌else◌}
use Rattle.std.specs.Option.{option_or}
use Rattle.std.specs.Str.{bytes_eq}
use Rattle.std.proofs.lemmas.Cmp.{nat_list_eq_equiv}
use Rattle.std.proofs.lemmas.Slice.Eq.{bytes_eq-Decides}
use Rattle.labels.specs.declared.given.Given.{Given}
use Rattle.labels.specs.DocumentLabels.{label_grade as grade_of, with_label}
use Rattle.rulebook.specs.declared.entry.Entry.{Entry}
use Rattle.rulebook.specs.Campaign.{History}
use Rattle.rulebook.specs.Histories.Facts.{grade_by}
use Rattle.rulebook.specs.Judgements.Grades.{Label, is_label_on, label_of, labels_on}
use Rattle.rulebook.specs.Histories.Legal.{IsAccepted, IsFounding, IsLegal}
use Rattle.rulebook.specs.Words.{Text, last_given}
use Rattle.rulebook.proofs.Judgements.NextEntries.{last-given-pushed}
use Rattle.rulebook.proofs.Judgements.NextLabels.{label-joins, labels-stay}
use Rattle.rulebook.proofs.LegalHistories.LegalWalk.{legal_induction}

-- the grade of an assessor's label, after some assessor gives a grade
abbrev Follows : Text → Text → ℕ → List Given → Type 0
Follows assessor by grade given = grade_of assessor (with_label by grade given) ≡ (if bytes_eq by assessor then Some grade else grade_of assessor given)

with_grade : (assessor by : Text) (grade : ℕ) (given : List Given) → Follows assessor by grade given
with_grade assessor by grade [] = step (bytes_eq by assessor) refl
  where
    step : (t : Bool) → bytes_eq by assessor ≡ t → grade_of assessor (with_label by grade []) ≡ (if bytes_eq by assessor then Some grade else None)
    step true is = rw is refl
    step false is = rw is refl
with_grade assessor by grade (label ∷ given) = step (bytes_eq label.assessor by) refl (with_grade assessor by grade given)
  where
    there : (t : Bool) → bytes_eq by assessor ≡ t → bytes_eq label.assessor by ≡ true → Follows assessor by grade (label ∷ given)
    there true is same =
        let name : label.assessor ≡ by = (bytes_eq-Decides label.assessor by).0 same in
        let here : bytes_eq label.assessor assessor ≡ true = ap (λ (n : Text). bytes_eq n assessor) name ∙ is in
        rw (same, is, here) refl
    there false is same =
        let name : label.assessor ≡ by = (bytes_eq-Decides label.assessor by).0 same in
        let other : bytes_eq label.assessor assessor ≡ false = ap (λ (n : Text). bytes_eq n assessor) name ∙ is in
        rw (same, is, other) refl

    behind : (s : Bool) → bytes_eq label.assessor assessor ≡ s → (t : Bool) → bytes_eq by assessor ≡ t → bytes_eq label.assessor by ≡ false
        → Follows assessor by grade given → Follows assessor by grade (label ∷ given)
    behind true here true is differ rest =
        let name : label.assessor ≡ assessor = (bytes_eq-Decides label.assessor assessor).0 here in
        let other : by ≡ assessor = (bytes_eq-Decides by assessor).0 is in
        let wrong : bytes_eq label.assessor by ≡ true = ap (λ (n : Text). bytes_eq n by) (name ∙ sym other) ∙ nat_list_eq_equiv.refl by in
        cc (wrong, differ)
    behind true here false is differ rest = rw (differ, is, here) refl
    behind false here t is differ rest = rw (differ, here) rest

    step : (t : Bool) → bytes_eq label.assessor by ≡ t → Follows assessor by grade given → Follows assessor by grade (label ∷ given)
    step true is rest = there (bytes_eq by assessor) refl is
    step false is rest = behind (bytes_eq label.assessor assessor) refl (bytes_eq by assessor) refl is rest

abbrev AreLast : History → Type 0
AreLast H = (topic doc assessor : Text) → grade_of assessor (labels_on H topic doc) ≡ last_given (grade_by topic doc assessor) H

-- what the last grade is to be, with one more entry
abbrev IsLastWith : History → Entry → Text → Text → Text → Type 0
IsLastWith before e topic doc assessor =
    grade_of assessor (labels_on (before ++ e ∷ []) topic doc) ≡ option_or (grade_by topic doc assessor e) (last_given (grade_by topic doc assessor) before)

last_pushed : (before : History) (e : Entry) → IsLegal before → AreLast before → IsAccepted before e → AreLast (before ++ e ∷ [])
last_pushed before e legal last accepted topic doc assessor = step (label_of e) refl ∙ sym (last-given-pushed (grade_by topic doc assessor) before e)
  where
    on : (l : Label) (t : Bool) → is_label_on topic doc l ≡ t → (s : Bool) → bytes_eq l.assessor assessor ≡ s
        → label_of e ≡ Some l → IsLastWith before e topic doc assessor
    on l true here s mine is =
        let joined : labels_on (before ++ e ∷ []) topic doc ≡ with_label l.assessor l.grade (labels_on before topic doc) =
        label-joins before e l topic doc is ∙ (rw here refl) in
        ap (grade_of assessor) joined ∙ with_grade assessor l.assessor l.grade (labels_on before topic doc) ∙ given s mine
      where
        given : (s : Bool) → bytes_eq l.assessor assessor ≡ s
            → (if bytes_eq l.assessor assessor then Some l.grade else grade_of assessor (labels_on before topic doc))
            ≡ option_or (grade_by topic doc assessor e) (last_given (grade_by topic doc assessor) before)
        given true mine = rw (is, here, mine) refl
        given false mine = rw (is, here, mine) (last topic doc assessor)
    on l false other s mine is =
        let stay : labels_on (before ++ e ∷ []) topic doc ≡ labels_on before topic doc = label-joins before e l topic doc is ∙ (rw other refl) in
        ap (grade_of assessor) stay ∙ (rw (is, other) (last topic doc assessor))

    step : (o : Option Label) → label_of e ≡ o → IsLastWith before e topic doc assessor
    step None is = ap (grade_of assessor) (labels-stay before e topic doc is) ∙ (rw is (last topic doc assessor))
    step (Some l) is = on l (is_label_on topic doc l) refl (bytes_eq l.assessor assessor) refl is

founding_last : (first : Entry) → IsFounding first → AreLast (first ∷ [])
founding_last first is topic doc assessor = rw (is.2) refl

pub labels_last : (H : History) → IsLegal H → AreLast H
labels_last = legal_induction AreLast last_pushed founding_last
