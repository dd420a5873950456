-- What a set label and agreeing grades mean.
use Rattle.std.proofs.Common.{◌≡◌, ℕ, suc, ◌+◌, ◌≤◌, ◌↔◌, Bool, true, false, cond, ◌&&◌, eqb, eq-eqb, List, [], ◌∷◌, length, Option, Some, None, refl, sym, ap, ◌∙◌, arith}
use Rattle.std.specs.List.{All, find, list_all}
use Rattle.std.specs.Option.{option_map}
use Rattle.std.specs.Str.{bytes_eq}
use Rattle.std.proofs.lemmas.Cmp.{nat_list_eq_equiv}
use Rattle.std.proofs.lemmas.List.Elements.{All-cons}
use Rattle.std.proofs.lemmas.List.Sums.{AllPass-from_list_all, list_all-from_AllPass}
use borrow.Author.Tests.{eqb-true}
use Rattle.labels.specs.declared.given.Given.{Given}
use Rattle.labels.specs.Grades.{common_grade}
use Rattle.labels.specs.DocumentLabels.{label_grade, with_label}

-- the grade of the label that is found, where the first of these labels passes or not
abbrev found_in : Bool → Given → List ℕ → List Given → Option ℕ
found_in passes first assessor others = option_map (λ label. label.grade) (cond passes (Some first) (find (λ label. bytes_eq label.assessor assessor) others))

-- each assessor's grade after one is given
pub label_after : (assessor other : List ℕ) (grade : ℕ) (given : List Given)
    → label_grade other (with_label assessor grade given) ≡ cond (bytes_eq assessor other) (Some grade) (label_grade other given)
label_after assessor other grade [] = step (bytes_eq assessor other)
  where
    step : (t : Bool)
        → option_map (λ (label : Given). label.grade) (cond t (Some (record { assessor = assessor; grade = grade })) None) ≡ cond t (Some grade) None
    step true = refl
    step false = refl
label_after assessor other grade (label ∷ given) =
    step (bytes_eq label.assessor assessor) (bytes_eq label.assessor other) (bytes_eq assessor other) (label_after assessor other grade given) refl
    (λ same. nat_list_eq_equiv.congr label.assessor assessor other same)
    (λ same. nat_list_eq_equiv.symm assessor other ∙ sym (nat_list_eq_equiv.congr label.assessor other assessor same))
  where
    step : (t u w : Bool) → label_grade other (with_label assessor grade given) ≡ cond w (Some grade) (label_grade other given)
        → bytes_eq label.assessor other ≡ u → (t ≡ true → u ≡ w) → (u ≡ true → w ≡ t)
        → label_grade other (cond t (record { assessor = label.assessor; grade = grade } ∷ given) (label ∷ with_label assessor grade given))
        ≡ cond w (Some grade) (label_grade other (label ∷ given))
    step true true true rest e own apart = ap (λ u. found_in u (record { assessor = label.assessor; grade = grade }) other given) e
    step true false false rest e own apart =
        ap (λ u. found_in u (record { assessor = label.assessor; grade = grade }) other given) e
        ∙ sym (ap (λ u. found_in u label other given) e)
    step true true false rest e own apart = absurd (let no : true ≡ false = own refl in cc)
    step true false true rest e own apart = absurd (let no : false ≡ true = own refl in cc)
    step false true true rest e own apart = absurd (let no : true ≡ false = apart refl in cc)
    step false true false rest e own apart =
        ap (λ u. found_in u label other (with_label assessor grade given)) e
        ∙ sym (ap (λ u. found_in u label other given) e)
    step false false w rest e own apart =
        ap (λ u. found_in u label other (with_label assessor grade given)) e
        ∙ rest
        ∙ sym (ap (λ u. cond w (Some grade) (found_in u label other given)) e)

-- a common grade is the one that as many labels as are needed give
pub agreed : (need grade : ℕ) (grades : List ℕ) → 1 ≤ need
    → (common_grade need grades ≡ Some grade) ↔ ((length grades ≡ need) × All (λ other. other ≡ grade) grades)
agreed need grade [] some = (λ h. absurd (cc), λ h. absurd (let none : 0 ≡ need = h.0 in omega arith))
agreed need grade (first ∷ grades) some = (λ h. fore (eqb (length grades + 1) need) (list_all (λ other. eqb other first) grades) refl refl h, back)
  where
    fore : (t u : Bool) → eqb (length grades + 1) need ≡ t → list_all (λ other. eqb other first) grades ≡ u → cond (t && u) (Some first) None ≡ Some grade
        → (length (first ∷ grades) ≡ need) × All (λ other. other ≡ grade) (first ∷ grades)
    fore true true e f h =
        let own : first ≡ grade = cc in
        let enough : length grades + 1 ≡ need = eqb-true _ _ e in (
          let len : length (first ∷ grades) ≡ need = omega arith in len,
          All-cons (λ other. other ≡ grade) first grades own (λ k d lt. eqb-true _ _ (AllPass-from_list_all (λ other. eqb other first) grades f k d lt) ∙ own),
        )
    fore true false e f h = absurd (cc)
    fore false u e f h = absurd (cc)

    back : (length (first ∷ grades) ≡ need) × All (λ other. other ≡ grade) (first ∷ grades)
        → cond (eqb (length grades + 1) need && list_all (λ other. eqb other first) grades) (Some first) None ≡ Some grade
    back h =
        let own : first ≡ grade = h.1 0 first (omega arith) in
        let many : length (first ∷ grades) ≡ need = h.0 in
        let enough : eqb (length grades + 1) need ≡ true = eq-eqb _ _ (omega arith) in
        let each : list_all (λ other. eqb other first) grades ≡ true =
        list_all-from_AllPass (λ other. eqb other first) grades (λ k d lt. eq-eqb _ _ (h.1 (suc k) d (omega arith) ∙ sym own)) in
        ap (λ t. cond (t && list_all (λ other. eqb other first) grades) (Some first) None) enough
        ∙ ap (λ t. cond t (Some first) None) each ∙ ap (λ n. Some n) own
