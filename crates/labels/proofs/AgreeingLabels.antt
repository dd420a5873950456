-- Labels that agree.
use Rattle.std.proofs.Common.{◌≡◌, ℕ, suc, ◌+◌, ◌-◌, ◌≤◌, Bool, true, cond, ◌&&◌, eqb, eq-eqb, List, [], ◌∷◌, length, get_or, take, drop, map, Some, None, sym, ap, ◌∙◌, arith}
use Rattle.std.specs.List.{list_all}
use Rattle.std.proofs.lemmas.List.{length-map, take_all}
use Rattle.std.proofs.lemmas.List.Folds.{list_all-map}
use Rattle.labels.specs.declared.given.Given.{Given}
use Rattle.labels.specs.Grades.{common_grade}

-- the grade of as many labels as are needed, where the others have that of the first
pub common_is : (need : ℕ) (given : List Given) (first : Given) (agree : Bool) → 1 ≤ length given → first ≡ get_or given 0 first → length given ≡ need
    → agree ≡ list_all (λ (label : Given). eqb label.grade first.grade) (take (length given - 1) (drop 1 given))
    → cond agree (Some first.grade) None ≡ common_grade need (map (λ (label : Given). label.grade) given)
common_is need [] first agree some is many same = absurd (omega arith)
common_is need (label ∷ labels) first agree some is many same =
    let grade : Given → ℕ = λ l. l.grade in
    let rest : take (suc (length labels) - 1) labels ≡ labels = take_all _ labels (omega arith) in
    let grades = map grade labels in
    let enough : eqb (length grades + 1) need ≡ true =
    eq-eqb _ _ (ap (λ n. n + 1) (length-map labels grade) ∙ (let e : length labels + 1 ≡ need = omega arith in e)) in
    let alike : agree ≡ list_all (λ n. eqb n label.grade) grades =
    same ∙ ap (list_all (λ (other : Given). eqb other.grade first.grade)) rest
    ∙ ap (λ (l : Given). list_all (λ (other : Given). eqb other.grade l.grade) labels) is ∙ sym (list_all-map (λ n. eqb n label.grade) grade labels) in
    ap (λ n. cond agree (Some n) None) (ap grade is)
    ∙ ap (λ t. cond t (Some label.grade) None) alike
    ∙ sym (ap (λ t. cond (t && list_all (λ n. eqb n label.grade) grades) (Some label.grade) None) enough)
