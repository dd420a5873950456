-- Scores by grades that are the same on each topic.
use Rattle.std.proofs.Common.{◌≡◌, ◌||◌, Bool, true, false, cond, List, [], ◌∷◌, None, filter, map, refl, ap, ◌∙◌}
use Rattle.std.specs.Prelude.{if◌then◌else◌}
use Rattle.std.specs.Str.{bytes_eq}
use Rattle.std.proofs.lemmas.Cmp.{nat_list_eq_equiv}
use Rattle.std.proofs.Math.Bool.{or-true}
use Rattle.rulebook.specs.Words.{Text, contains_text}
use Rattle.rulebook.specs.Judgements.Grades.{effective}
use Rattle.measures.specs.Means.{summary_of}
use Rattle.measures.specs.declared.cells.Cell.{Cell}
use Rattle.campaign_core.specs.Views.Gradings.{Grading, cell_by_grading, counts_by}
use Rattle.campaign_core.specs.Assessments.Topics.{topic_ids}
use Rattle.leave_out.specs.Reuse.{ReducedIsFull, reduced_grade}

-- what is made of the elements that pass, where on each element both do the same
module _ {X : Type 0} (f g : Text → X) (p q : Text → Bool) where
  same-passing : (xs : List Text) → ((x : Text) → contains_text xs x ≡ true → (p x ≡ q x) × (f x ≡ g x)) → map f (filter p xs) ≡ map g (filter q xs)
  same-passing [] same = refl
  same-passing (x ∷ xs) same =
      let here = same x (ap (λ t. t || contains_text xs x) (nat_list_eq_equiv.refl x)) in
      step (p x) (q x) here.0 here.1 (same-passing xs (λ other there. same other (ap (λ t. bytes_eq other x || t) there ∙ or-true (bytes_eq other x))))
    where
      step : (t u : Bool) → t ≡ u → f x ≡ g x → map f (filter p xs) ≡ map g (filter q xs)
          → map f (cond t (x ∷ filter p xs) (filter p xs)) ≡ map g (cond u (x ∷ filter q xs) (filter q xs))
      step true true same here rest = ap (λ y. y ∷ map f (filter p xs)) here ∙ ap (λ ys. g x ∷ ys) rest
      step true false same here rest = cc same
      step false true same here rest = cc same
      step false false same here rest = rest

pub full : ReducedIsFull
full H group run nothing =
    let same : (topic : Text) → contains_text (topic_ids H) topic ≡ true → reduced_grade H group topic ≡ effective H topic = λ topic there.
    λ i doc. ap (λ (docs : List Text). if contains_text docs doc then None else effective H topic doc) (nothing topic there) i in
    ap (λ (cs : List Cell). (summary_of cs).map)
    (same-passing (λ topic. cell_by_grading H run topic (reduced_grade H group topic)) (λ topic. cell_by_grading H run topic (effective H topic))
    (λ topic. counts_by H topic (reduced_grade H group topic)) (λ topic. counts_by H topic (effective H topic)) (topic_ids H)
    (λ topic there. (
      ap (λ (grade : Grading). counts_by H topic grade) (same topic there),
      ap (λ (grade : Grading). cell_by_grading H run topic grade) (same topic there),
    )))
