-- The reduced judgements of a topic, document by document, and what the rules count of them.
use Rattle.std.proofs.Common.{◌≡◌, ◌&&◌, ◌+◌, ◌<◌, ◌≤◌, ◌∙◌, ℕ, Bool, true, false, cond, List, [], ◌∷◌, None, Option, Some, ap, arith, filter, get_or, is_some, length, refl, sym, take}
use Rattle.std.specs.Prelude.{count_by}
use Rattle.std.proofs.lemmas.List.Sums.{count_by-le-length, sum_by_more}
use Rattle.decimal_rank.specs.Relevance.{is_non_relevant, is_relevant}
use Rattle.decimal_rank.proofs.Lists.{count_by-cons, count_by-alike}
use Rattle.rulebook.specs.Words.{Text, contains_text}
use Rattle.rulebook.specs.Campaign.{History, level}
use Rattle.rulebook.specs.Judgements.Grades.{effective, graded_documents, labelled_documents}
use Rattle.campaign_core.specs.Views.Gradings.{Grading, graded_by, non_relevant_by, relevant_by}
use Rattle.leave_out.specs.ReducedJudgements.{reduced_in, with_doc}
use Rattle.leave_out.specs.Reuse.{own, reduced_grade}

-- one more document
pub reduced-more : (H : History) (group topic : Text) (docs : List Text) (i : ℕ) → i < length docs → reduced_in H group topic (take (i + 1) docs)
    ≡ with_doc (level H topic) (effective H topic (get_or docs i [])) (contains_text (own H group topic) (get_or docs i []))
    (reduced_in H group topic (take i docs))
reduced-more H group topic docs i within =
    let relevant = sum_by_more (λ (doc : Text). cond (is_relevant (level H topic) (reduced_grade H group topic doc)) 1 0) docs i [] within in
    let lower = sum_by_more (λ (doc : Text). cond (is_non_relevant (level H topic) (reduced_grade H group topic doc)) 1 0) docs i [] within in
    let owned = sum_by_more (λ (doc : Text). cond (is_some (effective H topic doc) && contains_text (own H group topic) doc) 1 0) docs i [] within in
    λ k. record { relevant = relevant k; lower = lower k; own = owned k }

-- no more of them than documents
pub reduced-few : (H : History) (group topic : Text) (docs : List Text) (most : ℕ) → length docs ≤ most
    → ((reduced_in H group topic docs).relevant ≤ most) × ((reduced_in H group topic docs).lower ≤ most) × ((reduced_in H group topic docs).own ≤ most)
reduced-few H group topic docs most few = (
  omega (arith, few, count_by-le-length (λ (doc : Text). is_relevant (level H topic) (reduced_grade H group topic doc)) docs),
  omega (arith, few, count_by-le-length (λ (doc : Text). is_non_relevant (level H topic) (reduced_grade H group topic doc)) docs),
  omega (arith, few, count_by-le-length (λ (doc : Text). is_some (effective H topic doc) && contains_text (own H group topic) doc) docs),
)

-- Counts of those that pass two tests.

count-filter : {X : Type 0} (p q : X → Bool) (xs : List X) → count_by q (filter p xs) ≡ count_by (λ x. p x && q x) xs
count-filter p q [] = refl
count-filter p q (x ∷ xs) = step (p x) (count-filter p q xs) ∙ sym (count_by-cons (λ x. p x && q x) x xs)
  where
    step : (t : Bool) → count_by q (filter p xs) ≡ count_by (λ x. p x && q x) xs
        → count_by q (cond t (x ∷ filter p xs) (filter p xs)) ≡ cond (t && q x) 1 0 + count_by (λ x. p x && q x) xs
    step true rest = count_by-cons q x (filter p xs) ∙ ap (λ n. cond (q x) 1 0 + n) rest
    step false rest = rest ∙ omega arith

-- a document without a grade isn't counted
passing : (p : Option ℕ → Bool) → p None ≡ false → (o : Option ℕ) → (is_some o && p o) ≡ p o
passing p none None = sym none
passing p none (Some grade) = refl

module _ (H : History) (topic : Text) (grade : Grading) where
  by-count : (p : Option ℕ → Bool) → p None ≡ false
      → count_by (λ doc. p (grade doc)) (graded_by H topic grade) ≡ count_by (λ doc. p (grade doc)) (labelled_documents H topic)
  by-count p none =
      count-filter (λ doc. is_some (grade doc)) (λ doc. p (grade doc)) (labelled_documents H topic)
      ∙ count_by-alike (λ doc. is_some (grade doc) && p (grade doc)) (λ doc. p (grade doc)) (labelled_documents H topic) (λ doc. passing p none (grade doc))

  pub relevant-are : relevant_by H topic grade ≡ count_by (λ doc. is_relevant (level H topic) (grade doc)) (labelled_documents H topic)
  relevant-are = by-count (is_relevant (level H topic)) refl

  pub lower-are : non_relevant_by H topic grade ≡ count_by (λ doc. is_non_relevant (level H topic) (grade doc)) (labelled_documents H topic)
  lower-are = by-count (is_non_relevant (level H topic)) refl

pub own-are : (H : History) (group topic : Text)
    → count_by (contains_text (own H group topic)) (graded_documents H topic) ≡ (reduced_in H group topic (labelled_documents H topic)).own
own-are H group topic = count-filter (λ doc. is_some (effective H topic doc)) (contains_text (own H group topic)) (labelled_documents H topic)
