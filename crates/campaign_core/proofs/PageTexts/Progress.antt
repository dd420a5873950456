-- What the page of the progress counts of a topic.
use Rattle.std.proofs.Common.{◌≡◌, ◌&&◌, ◌+◌, ℕ, Bool, true, false, not, cond, List, [], ◌∷◌, Option, None, Some, filter, is_some, length, map, refl, sym, ap, ◌∙◌, arith}
use Rattle.std.specs.Prelude.{count_by}
use Rattle.std.specs.List.{flat_map}
use Rattle.std.specs.Str.{bytes_eq}
use Rattle.std.proofs.lemmas.List.{length-map}
use Rattle.std.proofs.lemmas.Bool.{not_from_false, and_from, and_parts}
use Rattle.std.proofs.Math.Bool.{and-false}
use Rattle.decimal_rank.proofs.Lists.{count_by-alike, count_by-cons, count_by-map}
use Rattle.depth_pool.specs.Holdings.{IsCount, some_run_holds}
use Rattle.measures.specs.Grades.{is_non_relevant, is_relevant}
use Rattle.qrels_view.specs.Grades.{is_non_relevant as non_relevant_there, is_relevant as relevant_there}
use Rattle.qrels_view.specs.declared.grades.Graded.{Graded}
use Rattle.rulebook.specs.Spelling.{differ}
use Rattle.rulebook.specs.Words.{Text, contains_text, in_order}
use Rattle.rulebook.specs.Campaign.{History, held_documents, level, live, pool}
use Rattle.rulebook.specs.Histories.Entries.{GradedAreOnTrail}
use Rattle.campaign_core.specs.Views.Gradings.{graded_by}
use Rattle.rulebook.specs.Judgements.Grades.{Label, effective, given_labels, graded_documents, labelled_documents, non_relevant_count, relevant_count, trail}
use Rattle.campaign_core.specs.Assessments.TopicLabelling.{graded_in}
use Rattle.campaign_core.specs.Numbering.NumberedGrades.{Narrows, graded_as}
use Rattle.campaign_core.specs.Numbering.Numbers.{doc_in, docs_in, names_of}
use Rattle.campaign_core.specs.Views.PrintedPages.{IsTopicOf}
use Rattle.campaign_core.specs.Assessments.Topics.{KeptTopic, pool_of}
use Rattle.assessment.specs.TopicFacts.{TopicFacts}
use Rattle.campaign_core.proofs.Lists.DistinctTexts.{differ-all}
use Rattle.campaign_core.proofs.Numbers.DocNumbers.{numbers-differ}
use Rattle.campaign_core.proofs.Numbers.NumberedDocs.{passing}
use Rattle.campaign_core.proofs.Lists.ByteOrder.{Rises, below, in_order-is, in_order-rises, not_later}
use Rattle.campaign_core.proofs.PageTexts.PoolTexts.{pool-named, same-docs}
use Rattle.campaign_core.proofs.PageTexts.QrelsLines.{graded-same, put, sorted, sorts}

-- Counts

module _ (q : Text → Bool) where
  count-put : (x : Text) (ys : List Text) → count_by q (put x ys) ≡ cond (q x) 1 0 + count_by q ys
  count-put x [] = count_by-cons q x []
  count-put x (y ∷ ys) = step (below x y) (count-put x ys)
    where
      step : (t : Bool) → count_by q (put x ys) ≡ cond (q x) 1 0 + count_by q ys
          → count_by q (cond t (x ∷ y ∷ ys) (y ∷ put x ys)) ≡ cond (q x) 1 0 + count_by q (y ∷ ys)
      step true rest = count_by-cons q x (y ∷ ys)
      step false rest = omega (arith, count_by-cons q y (put x ys), count_by-cons q y ys, rest)

  count-sorted : (xs : List Text) → count_by q (sorted xs) ≡ count_by q xs
  count-sorted [] = refl
  count-sorted (x ∷ xs) = count-put x (sorted xs) ∙ ap (λ n. cond (q x) 1 0 + n) (count-sorted xs) ∙ sym (count_by-cons q x xs)

  -- what doesn't pass a wider test isn't counted
  count-filter : (has : Text → Bool) → ((doc : Text) → q doc ≡ true → has doc ≡ true) → (xs : List Text) → count_by q (filter has xs) ≡ count_by q xs
  count-filter has wider [] = refl
  count-filter has wider (x ∷ xs) = step (has x) refl (count-filter has wider xs)
    where
      no_count : (t : Bool) → q x ≡ t → has x ≡ false → ◌≡◌ {A = ℕ} (cond (q x) 1 0) 0
      no_count true passes fails = let both : has x ≡ true = wider x passes in cc (both, fails)
      no_count false passes fails = ap (λ t. let n : ℕ = cond t 1 0 in n) passes

      step : (t : Bool) → has x ≡ t → count_by q (filter has xs) ≡ count_by q xs → count_by q (cond t (x ∷ filter has xs) (filter has xs)) ≡ count_by q (x ∷ xs)
      step true is rest = count_by-cons q x (filter has xs) ∙ ap (λ n. cond (q x) 1 0 + n) rest ∙ sym (count_by-cons q x xs)
      step false is rest = omega (arith, rest, count_by-cons q x xs, no_count (q x) refl is)

pub differ-filter : (p : Text → Bool) (xs : List Text) → differ xs ≡ true → differ (filter p xs) ≡ true
differ-filter p [] differs = refl
differ-filter p (x ∷ xs) differs =
    let parts = and_parts (not (contains_text xs x)) (differ xs) differs in
    step (p x) (absent (contains_text xs x) refl parts.0) (differ-filter p xs parts.1)
  where
    absent : (t : Bool) → contains_text xs x ≡ t → not t ≡ true → contains_text (filter p xs) x ≡ false
    absent true is no_more = cc no_more
    absent false is no_more = passing p xs x ∙ ap (λ t. p x && t) is ∙ and-false (p x)

    step : (t : Bool) → contains_text (filter p xs) x ≡ false → differ (filter p xs) ≡ true → differ (cond t (x ∷ filter p xs) (filter p xs)) ≡ true
    step true gone rest = and_from (not (contains_text (filter p xs) x)) (differ (filter p xs)) (not_from_false (contains_text (filter p xs) x) gone) rest
    step false gone rest = rest

labelled-differ : (H : History) (topic : Text) → differ (labelled_documents H topic) ≡ true
labelled-differ H topic = differ-all [] (map (λ (label : Label). label.doc) (filter (λ (label : Label). bytes_eq label.topic topic) (given_labels H))) refl

-- of the documents of the trail, and of those with a grade, where each has an effective one too
module _ (H : History) (names : List Text) (topic : Text) (on_trail : GradedAreOnTrail) (grade : Text → Option ℕ)
    (narrows : Narrows H topic grade) (p : Option ℕ → Bool) (none : p None ≡ false) where
  abbrev has : Text → Bool
  has doc = is_some (effective H topic doc)

  abbrev q : Text → Bool
  q doc = p (grade doc)

  given : (doc : Text) → q doc ≡ true → is_some (grade doc) ≡ true
  given doc = step (grade doc)
    where
      step : (o : Option ℕ) → p o ≡ true → is_some o ≡ true
      step None passes = cc (none, passes)
      step (Some grade) passes = refl

  wider : (doc : Text) → q doc ≡ true → has doc ≡ true
  wider doc passes = narrows doc (given doc passes)

  ordered : sorted (graded_documents H topic) ≡ in_order (graded_documents H topic)
  ordered =
      let sort = sorts (graded_documents H topic) (differ-filter has (labelled_documents H topic) (labelled-differ H topic)) in
      in_order-is (graded_documents H topic) (sorted (graded_documents H topic)) sort.rises (λ doc. sort.members (bytes_eq doc))

  pub count-same : count_by (λ g. p g.grade) (graded_as names grade (trail H topic)) ≡ count_by q (graded_by H topic grade)
  count-same =
      count_by-map (λ doc. record { doc = doc_in names doc; grade = grade doc }) (λ (g : Graded). p g.grade) (trail H topic)
      ∙ sym (count-sorted q (trail H topic))
      ∙ sym (count-filter q has wider (sorted (trail H topic)))
      ∙ ap (count_by q) (graded-same H names topic on_trail ∙ sym ordered)
      ∙ count-sorted q (graded_documents H topic)
      ∙ count-filter q has wider (labelled_documents H topic)
      ∙ sym (count-filter q (λ doc. is_some (grade doc)) given (labelled_documents H topic))

same-relevant : (level : ℕ) (o : Option ℕ) → relevant_there level o ≡ is_relevant level o
same-relevant level None = refl
same-relevant level (Some grade) = refl

same-non_relevant : (level : ℕ) (o : Option ℕ) → non_relevant_there level o ≡ is_non_relevant level o
same-non_relevant level None = refl
same-non_relevant level (Some grade) = refl

-- those that are relevant, and those that are judged lower
module _ (H : History) (names : List Text) (topic : Text) (on_trail : GradedAreOnTrail) (grade : Text → Option ℕ) (narrows : Narrows H topic grade) where
  pub relevant-same : (level : ℕ) → count_by (λ g. relevant_there level g.grade) (graded_as names grade (trail H topic))
      ≡ count_by (λ doc. is_relevant level (grade doc)) (graded_by H topic grade)
  relevant-same level =
      count-same H names topic on_trail grade narrows (relevant_there level) refl
      ∙ count_by-alike (λ doc. relevant_there level (grade doc)) (λ doc. is_relevant level (grade doc))
      (graded_by H topic grade) (λ doc. same-relevant level (grade doc))

  pub lower-same : (level : ℕ) → count_by (λ g. non_relevant_there level g.grade) (graded_as names grade (trail H topic))
      ≡ count_by (λ doc. is_non_relevant level (grade doc)) (graded_by H topic grade)
  lower-same level =
      count-same H names topic on_trail grade narrows (non_relevant_there level) refl
      ∙ count_by-alike (λ doc. non_relevant_there level (grade doc)) (λ doc. is_non_relevant level (grade doc)) (graded_by H topic grade)
      (λ doc. same-non_relevant level (grade doc))

-- a pool

rises-differ : (xs : List Text) → Rises xs → differ xs ≡ true
rises-differ [] up = refl
rises-differ (x ∷ xs) up = and_from (not (contains_text xs x)) (differ xs) (not_from_false (contains_text xs x) (not_later x xs up)) (rises-differ xs up.1)

module _ (H : History) (names : List Text) (topic : TopicFacts) (is : IsTopicOf H names topic) where
  level-is : topic.level ≡ level H topic.id
  level-is = ap (λ (k : KeptTopic). k.level) is.kept_is

  runs-are : topic.pool ≡ pool_of H topic.id
  runs-are = ap (λ (k : KeptTopic). k.runs) is.kept_is

  pub pool-count : (count : ℕ) → IsCount (λ doc. some_run_holds doc topic.pool) count → count ≡ length (pool H topic.id)
  pool-count count counts =
      let docs = pool H topic.id in
      let differs = rises-differ docs (in_order-rises (flat_map (held_documents H topic.id) (live H))) in
      counts (docs_in (names_of H) docs) (numbers-differ (names_of H) docs differs (pool-named H topic.id))
      (λ doc. sym (same-docs H topic.id doc) ∙ sym (ap (some_run_holds doc) runs-are))
      ∙ length-map docs (λ doc. doc_in (names_of H) doc)

  module _ (on_trail : GradedAreOnTrail) where
    pub relevant-count : count_by (λ g. relevant_there topic.level g.grade) topic.graded ≡ relevant_count H topic.id
    relevant-count =
        ap (count_by (λ (g : Graded). relevant_there topic.level g.grade)) is.labelled.graded_are
        ∙ ap (λ l. count_by (λ (g : Graded). relevant_there l g.grade) (map (graded_in H names topic.id) (trail H topic.id))) level-is
        ∙ relevant-same H names topic.id on_trail (effective H topic.id) (λ doc some. some) (level H topic.id)

    pub non_relevant-count : count_by (λ g. non_relevant_there topic.level g.grade) topic.graded ≡ non_relevant_count H topic.id
    non_relevant-count =
        ap (count_by (λ (g : Graded). non_relevant_there topic.level g.grade)) is.labelled.graded_are
        ∙ ap (λ l. count_by (λ (g : Graded). non_relevant_there l g.grade) (map (graded_in H names topic.id) (trail H topic.id))) level-is
        ∙ lower-same H names topic.id on_trail (effective H topic.id) (λ doc some. some) (level H topic.id)
