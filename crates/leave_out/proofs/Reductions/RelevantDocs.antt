-- The documents of a ranked list that pass by reduced judgements are no more than those of its topic that pass.
use Rattle.std.proofs.Common.{◌≡◌, ◌&&◌, ◌≤◌, ◌∙◌, ℕ, Bool, true, false, cond, not, List, [], ◌∷◌, None, Option, Some, ap, arith, filter, is_some, length, map, refl, sym, ◌<◌, get_or}
use Rattle.std.specs.Prelude.{count_by, if◌then◌else◌}
use Rattle.std.specs.Option.{option_map}
use Rattle.std.specs.List.{AllByRecursion, IsDistinct}
use Rattle.std.specs.Str.{bytes_eq}
use Rattle.std.proofs.lemmas.Cmp.{nat_list_eq_equiv}
use Rattle.std.proofs.lemmas.List.Sums.{length-filter}
use Rattle.std.proofs.lemmas.Map.Keys.{IsDistinct-cons}
use Rattle.std.proofs.lemmas.Map.Made.{length-le_from_is_member}
use Rattle.std.proofs.lemmas.Bool.{not-true, and_parts}
use Rattle.std.proofs.lemmas.Option.{slice_get-get_or}
use Rattle.decimal_rank.specs.Relevance.{is_non_relevant, is_relevant}
use Rattle.decimal_rank.proofs.Lists.{count_by-map}
use Rattle.depth_pool.specs.declared.runs.RunId.{RunId}
use Rattle.rulebook.specs.Campaign.{History, Run, docs_on, level}
use Rattle.rulebook.specs.Histories.Entries.{GradedAreOnTrail, GradedAreThere}
use Rattle.rulebook.specs.Judgements.Grades.{effective, graded_documents, labelled_documents}
use Rattle.rulebook.specs.Histories.Legal.{IsLegal}
use Rattle.rulebook.specs.Spelling.{differ}
use Rattle.rulebook.specs.Words.{Text, contains_text}
use Rattle.campaign_core.specs.Views.LentTopics.{topic_at}
use Rattle.campaign_core.specs.Assessments.Topics.{topic_ids}
use Rattle.campaign_core.proofs.Lists.DistinctTexts.{apart-from}
use Rattle.leave_out.specs.ReducedJudgements.{IsLive, reduced_in}
use Rattle.leave_out.specs.Reuse.{own, reduced_grade}
use Rattle.leave_out.specs.declared.reduced_judgements.ReducedJudgements.{ReducedJudgements}
use Rattle.leave_out.proofs.Elements.{told}
use Rattle.leave_out.proofs.Reductions.OwnDocs.{any-filter}

-- Texts of which none stands twice.

module _ (q : Text → Bool) where
  distinct-passing : (texts : List Text) → differ texts ≡ true → IsDistinct bytes_eq (filter q texts)
  unfolding IsDistinct
  distinct-passing [] once = tt
  distinct-passing (text ∷ texts) once =
      let parts = and_parts (not (contains_text texts text)) (differ texts) once in
      let none = any-filter q text texts ∙ ap (λ t. t && q text) (not-true (contains_text texts text) parts.0) in
      step (q text) (apart-from text (filter q texts) none) (distinct-passing texts parts.1)
    where
      step : (t : Bool) → AllByRecursion (λ other. bytes_eq text other ≡ false) (filter q texts) → IsDistinct bytes_eq (filter q texts)
          → IsDistinct bytes_eq (cond t (text ∷ filter q texts) (filter q texts))
      step true none rest = IsDistinct-cons bytes_eq text (filter q texts) none rest
      step false none rest = rest

  -- of texts that differ no more pass than of those that have each of them that passes
  no-more : (texts others : List Text) → differ texts ≡ true → ((text : Text) → q text ≡ true → contains_text others text ≡ true)
      → count_by q texts ≤ count_by q others
  no-more texts others once among =
      let fewer = length-le_from_is_member nat_list_eq_equiv (filter q texts) (filter q others) (distinct-passing texts once)
      (λ text there.
      let passes = (and_parts (contains_text texts text) (q text) (sym (any-filter q text texts) ∙ there)).1 in
      any-filter q text others ∙ ap (λ t. t && q text) (among text passes) ∙ passes) in
      omega (arith, fewer, length-filter q texts, length-filter q others)

module _ (H : History) (there : GradedAreThere) (on : GradedAreOnTrail) (legal : IsLegal H) where
  -- what has a grade has a label
  graded-labelled : (topic doc : Text) → is_some (effective H topic doc) ≡ true → contains_text (labelled_documents H topic) doc ≡ true
  graded-labelled topic doc some =
      let is_graded : contains_text (graded_documents H topic) doc ≡ true =
      on H topic doc ∙ ap (λ t. t && is_some (effective H topic doc)) (there H legal topic doc some) ∙ some in
      (and_parts (contains_text (labelled_documents H topic) doc) (is_some (effective H topic doc))
      (sym (any-filter (λ doc. is_some (effective H topic doc)) doc (labelled_documents H topic)) ∙ is_graded)).0

  -- of a list that names no document twice
  list-few : (group topic : Text) (p : Option ℕ → Bool) → p None ≡ false → (docs : List Text) → differ docs ≡ true
      → count_by p (map (reduced_grade H group topic) docs) ≤ count_by (λ doc. p (reduced_grade H group topic doc)) (labelled_documents H topic)
  list-few group topic p none docs once =
      let few = no-more (λ doc. p (reduced_grade H group topic doc)) docs (labelled_documents H topic) once
      (λ doc passes. graded-labelled topic doc (has (contains_text (own H group topic) doc) (effective H topic doc) passes)) in
      omega (arith, few, count_by-map (reduced_grade H group topic) p docs)
    where
      has : (t : Bool) (o : Option ℕ) → p (if t then None else o) ≡ true → is_some o ≡ true
      has true o passes = cc (sym none ∙ passes)
      has false None passes = cc (sym none ∙ passes)
      has false (Some grade) passes = refl

  -- the relevant ones and those with a lower grade of a live run's list are among those of the reduced judgements
  pub list-within : (n : ℕ) (group : Text) (number : RunId) (judgements : ReducedJudgements) (grades : List (Option ℕ)) (bound : ℕ) → n < length (topic_ids H)
      → (one : ℕ × Run) × IsLive H number one
      → ((id : Text) → topic_at H n ≡ Some id → judgements ≡ reduced_in H group id (labelled_documents H id))
      → ((id : Text) (one : ℕ × Run) → topic_at H n ≡ Some id → IsLive H number one → grades ≡ map (reduced_grade H group id) (docs_on one.1.lists id))
      → option_map (level H) (topic_at H n) ≡ Some bound
      → (count_by (is_relevant bound) grades ≤ judgements.relevant) × (count_by (is_non_relevant bound) grades ≤ judgements.lower)
  list-within n group number judgements grades bound inside live judgements_are grades_are level_is =
      let id : Text = get_or (topic_ids H) n [] in
      let at : topic_at H n ≡ Some id = slice_get-get_or (topic_ids H) n [] inside in
      let docs = docs_on live.0.1.lists id in
      let is : grades ≡ map (reduced_grade H group id) docs = grades_are id live.0 at live.1 in
      let bound_is : level H id ≡ bound = told (topic_at H n) id (level H) bound at level_is in
      let relevant = ap (λ l. count_by (is_relevant l) grades) (sym bound_is) ∙ ap (count_by (is_relevant (level H id))) is in
      let lower = ap (λ l. count_by (is_non_relevant l) grades) (sym bound_is) ∙ ap (count_by (is_non_relevant (level H id))) is in (
        omega (
          arith,
          relevant,
          list-few group id (is_relevant (level H id)) refl docs (live.1.once id),
          ap (λ (l : ReducedJudgements). l.relevant) (judgements_are id at),
        ),
        omega (
          arith,
          lower,
          list-few group id (is_non_relevant (level H id)) refl docs (live.1.once id),
          ap (λ (l : ReducedJudgements). l.lower) (judgements_are id at),
        ),
      )
