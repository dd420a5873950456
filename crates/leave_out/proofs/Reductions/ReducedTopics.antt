-- The reduced judgements of topics, one after another, and the mean of a run over those that count.
use Rattle.std.proofs.Common.{◌≡◌, ◌||◌, ◌+◌, ◌/◌, ◌<◌, ◌∙◌, ℕ, Bool, true, false, cond, List, [], ◌∷◌, ◌++◌, None, Option, Some, ap, arith, filter, get_or, is_some, le-ltb, leb-false, leb-true, length, lt-ltb, ltb-false, ltb-true, map, refl, sym, take}
use Rattle.std.specs.Prelude.{◌==◌, count_by, if◌then◌else◌, nat_le, nat_lt, sum_by, unwrap_or}
use Rattle.std.proofs.lemmas.List.{append-nil, length-append, length-map, take_more}
use Rattle.std.proofs.lemmas.List.Elements.{filter-append}
use Rattle.std.proofs.lemmas.List.Sums.{sum_by-cons, sum_by_push}
use Rattle.decimal_rank.specs.Relevance.{is_non_relevant, is_relevant}
use Rattle.measures.specs.Means.{summary_of, value_of}
use Rattle.measures.specs.declared.cells.Cell.{Cell}
use Rattle.measures.specs.declared.means.Measure.TheVariants.{Map}
use Rattle.rulebook.specs.Campaign.{History, Run, level}
use Rattle.rulebook.specs.Judgements.Grades.{graded_documents, labelled_documents}
use Rattle.rulebook.specs.Words.{Text, contains_text}
use Rattle.campaign_core.specs.Views.Gradings.{Grading, cell_by_grading, counts_by, graded_by}
use Rattle.campaign_core.specs.Assessments.Topics.{topic_ids}
use Rattle.leave_out.specs.ReducedJudgements.{has_any_grade, reduced_in, one_if, sums_in, value_on, with_topic}
use Rattle.leave_out.specs.Reuse.{own, reduced_grade, reduced_map}
use Rattle.leave_out.specs.declared.reduced_judgements.ReducedJudgements.{ReducedJudgements}
use Rattle.leave_out.specs.declared.reusability.Sums.{Sums}

-- Each document with a grade is relevant or judged lower.

module _ (level : ℕ) (grade : Grading) where
  kind : (o : Option ℕ) → ◌≡◌ {A = ℕ} (cond (is_some o) 1 0) (cond (is_relevant level o) 1 0 + cond (is_non_relevant level o) 1 0)
  kind None = omega arith
  kind (Some given) = step (nat_le level given) refl
    where
      step : (t : Bool) → nat_le level given ≡ t → ◌≡◌ {A = ℕ} 1 (cond t 1 0 + cond (nat_lt given level) 1 0)
      step true is = sym (ap (λ t. let n : ℕ = 1 + cond t 1 0 in n) (le-ltb given level (leb-true level given is)))
      step false is = sym (ap (λ t. let n : ℕ = 0 + cond t 1 0 in n) (lt-ltb given level (leb-false level given is)))

  kinds : (docs : List Text) → length (filter (λ doc. is_some (grade doc)) docs)
      ≡ count_by (λ doc. is_relevant level (grade doc)) docs + count_by (λ doc. is_non_relevant level (grade doc)) docs
  kinds [] = refl
  kinds (doc ∷ docs) =
      let there = step (is_some (grade doc)) in
      let relevant = sum_by-cons (λ (doc : Text). cond (is_relevant level (grade doc)) 1 0) doc docs in
      let lower = sum_by-cons (λ (doc : Text). cond (is_non_relevant level (grade doc)) 1 0) doc docs in
      omega (arith, there, relevant, lower, kind (grade doc), kinds docs)
    where
      rest : List Text
      rest = filter (λ doc. is_some (grade doc)) docs

      step : (t : Bool) → ◌≡◌ {A = ℕ} (length (cond t (doc ∷ rest) rest)) (cond t 1 0 + length rest)
      step true = omega arith
      step false = omega arith

some-of : (a b n : ℕ) → n ≡ a + b → (nat_lt 0 a || nat_lt 0 b) ≡ nat_lt 0 n
some-of a b n is = step (nat_lt 0 a) refl (nat_lt 0 b) refl (nat_lt 0 n) refl
  where
    step : (s : Bool) → nat_lt 0 a ≡ s → (t : Bool) → nat_lt 0 b ≡ t → (u : Bool) → nat_lt 0 n ≡ u → (s || t) ≡ u
    step true p t q true r = refl
    step true p t q false r = absurd (omega (arith, is, ltb-true 0 a p, ltb-false 0 n r))
    step false p true q true r = refl
    step false p true q false r = absurd (omega (arith, is, ltb-true 0 b q, ltb-false 0 n r))
    step false p false q true r = absurd (omega (arith, is, ltb-false 0 a p, ltb-false 0 b q, ltb-true 0 n r))
    step false p false q false r = refl

-- whether a topic still counts
pub counted-is : (H : History) (group topic : Text) (judgements : ReducedJudgements) → judgements ≡ reduced_in H group topic (labelled_documents H topic)
    → has_any_grade judgements ≡ counts_by H topic (reduced_grade H group topic)
counted-is H group topic judgements is =
    ap has_any_grade is
    ∙ some-of (reduced_in H group topic (labelled_documents H topic)).relevant (reduced_in H group topic (labelled_documents H topic)).lower
    (length (graded_by H topic (reduced_grade H group topic)))
    (kinds (level H topic) (reduced_grade H group topic) (labelled_documents H topic))

-- One more topic.

module _ (H : History) (group : Text) (run : Run) where
  abbrev counts : Text → Bool
  counts topic = counts_by H topic (reduced_grade H group topic)

  abbrev value : Text → ℕ
  value topic = value_of Map (cell_by_grading H run topic (reduced_grade H group topic))

  abbrev own_on : Text → ℕ
  own_on topic = count_by (contains_text (own H group topic)) (graded_documents H topic)

  topics-more : (t : Bool) (topic : Text) (before : List Text)
      → length (before ++ cond t (topic ∷ []) []) ≡ length before + one_if (is_some (if t then Some (value topic) else None))
  topics-more true topic before = length-append before (topic ∷ [])
  topics-more false topic before = length-append before []

  precisions-more : (t : Bool) (topic : Text) (before : List Text)
      → sum_by value (before ++ cond t (topic ∷ []) []) ≡ sum_by value before + unwrap_or (if t then Some (value topic) else None) 0
  precisions-more true topic before = sum_by_push value before topic
  precisions-more false topic before = ap (sum_by value) (append-nil before) ∙ omega arith

  pub sums-more : (topics : List Text) (i : ℕ) → i < length topics
      → sums_in H group run (take (i + 1) topics)
      ≡ with_topic (own_on (get_or topics i [])) (value_on H group run (get_or topics i [])) (sums_in H group run (take i topics))
  sums-more topics i within =
      let topic : Text = get_or topics i [] in
      let front = take i topics in
      let more : filter counts (front ++ topic ∷ []) ≡ filter counts front ++ cond (counts topic) (topic ∷ []) [] = filter-append counts front (topic ∷ []) in
      let owned = sum_by_push own_on front topic in
      let number = ap (λ (ts : List Text). length ts) more ∙ topics-more (counts topic) topic (filter counts front) in
      let total = ap (sum_by value) more ∙ precisions-more (counts topic) topic (filter counts front) in
      ap (sums_in H group run) (take_more topics i [] within) ∙ (λ k. record { own = owned k; topics = number k; precisions = total k })

  sum-map : {X : Type 0} (f : Cell → ℕ) (g : X → Cell) (xs : List X) → sum_by f (map g xs) ≡ sum_by (λ x. f (g x)) xs
  sum-map f g [] = refl
  sum-map f g (x ∷ xs) = sum_by-cons f (g x) (map g xs) ∙ ap (λ n. f (g x) + n) (sum-map f g xs) ∙ sym (sum_by-cons (λ x. f (g x)) x xs)

  -- the mean over the topics that count
  pub mean-is : (sums : Sums) → sums ≡ sums_in H group run (topic_ids H)
      → (if sums.topics == 0 then 0 else sums.precisions / sums.topics) ≡ reduced_map H group run
  unfolding summary_of
  mean-is sums is =
      let counted = filter counts (topic_ids H) in
      let cell : Text → Cell = λ topic. cell_by_grading H run topic (reduced_grade H group topic) in
      let quotient : ℕ → ℕ → ℕ = λ total number. if number == 0 then 0 else total / number in
      ap (λ (sums : Sums). quotient sums.precisions sums.topics) is
      ∙ ap (λ n. quotient n (length counted)) (sym (sum-map (value_of Map) cell counted))
      ∙ ap (quotient (sum_by (value_of Map) (map cell counted))) (sym (length-map counted cell))
