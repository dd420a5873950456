-- The cell of a run on a topic by the board is the one of the rules.
use Rattle.std.proofs.Common.{◌≡◌, ◌||◌, ◌+◌, ℕ, zero, suc, Bool, true, false, cond, List, [], ◌∷◌, Option, None, Some, filter, is_some, length, map, refl, sym, ap, ◌∙◌, arith}
use Rattle.std.specs.Prelude.{count_by, if◌then◌else◌, nat_le, nat_lt, slice_get}
use Rattle.std.specs.List.{flat_map}
use Rattle.std.specs.Str.{bytes_eq}
use Rattle.std.proofs.lemmas.Bool.{le-ltb, leb-false, leb-true, lt-ltb}
use Rattle.std.proofs.lemmas.Slice.Eq.{bytes_eq-Decides}
use Rattle.decimal_rank.proofs.Lists.{count_by-cons, all_head, all_tail}
use Rattle.measures.specs.Cells.{cell_of}
use Rattle.measures.specs.Grades.{is_non_relevant, is_relevant}
use Rattle.measures.specs.declared.cells.Cell.{Cell}
use Rattle.qrels_view.specs.Grades.{effective_in, is_non_relevant as lower_there, is_relevant as relevant_there}
use Rattle.qrels_view.specs.declared.grades.Graded.{Graded}
use Rattle.rulebook.specs.Words.{Text, contains_text}
use Rattle.rulebook.specs.Campaign.{History, Run, docnos, docs_on, level}
use Rattle.rulebook.specs.Histories.Entries.{GradedAreOnTrail, GradedAreThere}
use Rattle.rulebook.specs.Judgements.Grades.{effective, graded_documents, labelled_documents, non_relevant_count, relevant_count, trail}
use Rattle.rulebook.specs.Histories.Legal.{IsLegal}
use Rattle.campaign_core.specs.Views.Gradings.{cell_by_grading, relevant_by}
use Rattle.rulebook.specs.Reports.Scores.{cell_on}
use Rattle.score_index.specs.BoardGrades.{cell_from, grades_by_rank as ranked_there}
use Rattle.campaign_core.specs.Numbering.NumberedGrades.{Narrows, graded_as}
use Rattle.campaign_core.specs.Numbering.Numbers.{are_named, doc_in, docs_in}
use Rattle.campaign_core.specs.Views.PrintedPages.{IsTopicOf}
use Rattle.campaign_core.specs.Assessments.RunScores.{list_on}
use Rattle.campaign_core.specs.Assessments.Topics.{KeptTopic}
use Rattle.assessment.specs.TopicFacts.{TopicFacts}
use Rattle.campaign_core.proofs.NamedDocuments.LiveLeases.{same-number}
use Rattle.campaign_core.proofs.Lists.Elements.{all_back, all_front}
use Rattle.campaign_core.proofs.PageTexts.Progress.{lower-same, relevant-same}

module _ (names : List Text) (grade : Text → Option ℕ) where
  abbrev one : Text → Graded
  one doc = record { doc = doc_in names doc; grade = grade doc }

  -- the grade of a document along a trail
  grade-along : (docs : List Text) (doc : Text) → contains_text names doc ≡ true → are_named names docs ≡ true
      → (is_some (grade doc) ≡ true → contains_text docs doc ≡ true)
      → effective_in (map one docs) (doc_in names doc) ≡ grade doc
  grade-along [] doc there named on = nothing (grade doc) on
    where
      nothing : (o : Option ℕ) → (is_some o ≡ true → false ≡ true) → None ≡ o
      nothing None e = refl
      nothing (Some g) e = cc (e refl)
  grade-along (x ∷ docs) doc there named on =
      ap (λ t. if t then grade x else effective_in (map one docs) (doc_in names doc))
      (same-number names doc x there (all_head (contains_text names) x docs named))
      ∙ step (bytes_eq doc x) refl on (grade-along docs doc there (all_tail (contains_text names) x docs named))
    where
      step : (t : Bool) → bytes_eq doc x ≡ t → (is_some (grade doc) ≡ true → (bytes_eq doc x || contains_text docs doc) ≡ true)
          → ((is_some (grade doc) ≡ true → contains_text docs doc ≡ true) → effective_in (map one docs) (doc_in names doc) ≡ grade doc)
          → (if t then grade x else effective_in (map one docs) (doc_in names doc)) ≡ grade doc
      step true is on rest = ap grade (sym ((bytes_eq-Decides doc x).0 is))
      step false is on rest = rest (λ some. ap (λ t. t || contains_text docs doc) (sym is) ∙ on some)

  pub grades-same : (trail_docs docs : List Text) → are_named names trail_docs ≡ true
      → ((doc : Text) → is_some (grade doc) ≡ true → contains_text trail_docs doc ≡ true) → are_named names docs ≡ true
      → ranked_there (map one trail_docs) (docs_in names docs) ≡ map grade docs
  grades-same trail_docs [] trail_named on named = refl
  grades-same trail_docs (x ∷ docs) trail_named on named =
      ap (λ o. o ∷ ranked_there (map one trail_docs) (docs_in names docs))
      (grade-along trail_docs x (all_head (contains_text names) x docs named) trail_named (on x))
      ∙ ap (λ os. grade x ∷ os) (grades-same trail_docs docs trail_named on (all_tail (contains_text names) x docs named))

-- the lists of a run are of docnos of the history
pub run-named : (names : List Text) (rs : List Run) (i : ℕ) (run : Run) → are_named names (flat_map (λ run. docnos run.lists) rs) ≡ true
    → slice_get rs i ≡ Some run → are_named names (docnos run.lists) ≡ true
run-named names [] i run named is = cc is
run-named names (r ∷ rs) zero run named is =
    let same : r ≡ run = cc is in
    ap (λ (r : Run). are_named names (docnos r.lists)) (sym same)
    ∙ all_front (contains_text names) (docnos r.lists) (flat_map (λ run. docnos run.lists) rs) named
run-named names (r ∷ rs) (suc i) run named is =
    run-named names rs i run (all_back (contains_text names) (docnos r.lists) (flat_map (λ run. docnos run.lists) rs) named) is

-- the cell of a run by some of the effective grades
module _ (H : History) (names : List Text) (topic : Text) (grade : Text → Option ℕ) (narrows : Narrows H topic grade) (legal : IsLegal H)
    (on_trail : GradedAreOnTrail) (there : GradedAreThere) where
  pub cell-numbered : (run : Run) → are_named names (trail H topic) ≡ true → are_named names (docs_on run.lists topic) ≡ true
      → cell_from (level H topic) (graded_as names grade (trail H topic)) (list_on names topic run) ≡ cell_by_grading H run topic grade
  cell-numbered run trail_named named =
      let docs = docs_on run.lists topic in
      let graded_are : List Graded = graded_as names grade (trail H topic) in
      let grades : ranked_there graded_are (list_on names topic run) ≡ map grade docs =
      grades-same names grade (trail H topic) docs trail_named (λ doc some. there H legal topic doc (narrows doc some)) named in
      let Counted : List (Option ℕ) → ℕ → ℕ → ℕ → Cell = cell_of in
      let l = level H topic in
      ap (λ (gs : List (Option ℕ)). Counted gs (count_by (λ g. relevant_there l g.grade) graded_are) (count_by (λ g. lower_there l g.grade) graded_are) l)
      grades
      ∙ ap (λ r. Counted (map grade docs) r (count_by (λ g. lower_there l g.grade) graded_are) l) (relevant-same H names topic on_trail grade narrows l)
      ∙ ap (λ n. Counted (map grade docs) (relevant_by H topic grade) n l) (lower-same H names topic on_trail grade narrows l)

module _ (H : History) (names : List Text) (topic : TopicFacts) (is : IsTopicOf H names topic) (legal : IsLegal H)
    (on_trail : GradedAreOnTrail) (there : GradedAreThere) where
  pub cell-same : (run : Run) → are_named names (docs_on run.lists topic.id) ≡ true
      → cell_from topic.level topic.graded (list_on names topic.id run) ≡ cell_on H run topic.id
  cell-same run named =
      let id = topic.id in
      ap (λ (graded : List Graded). cell_from topic.level graded (list_on names id run)) is.labelled.graded_are
      ∙ ap (λ l. cell_from l (graded_as names (effective H id) (trail H id)) (list_on names id run)) (ap (λ (k : KeptTopic). k.level) is.kept_is)
      ∙ cell-numbered H names id (effective H id) (λ doc some. some) legal on_trail there run is.labelled.trail_named named

-- each document with an effective grade is relevant or judged lower
module _ (level : ℕ) (f : Text → Option ℕ) where
  abbrev has : Text → Bool
  has doc = is_some (f doc)

  one-of-both : (o : Option ℕ) → is_some o ≡ true → ◌≡◌ {A = ℕ} (cond (is_relevant level o) 1 0 + cond (is_non_relevant level o) 1 0) 1
  one-of-both None some = cc some
  one-of-both (Some grade) some = step (nat_le level grade) refl
    where
      step : (t : Bool) → nat_le level grade ≡ t → ◌≡◌ {A = ℕ} (cond t 1 0 + cond (nat_lt grade level) 1 0) 1
      step true is = ap (λ t. let n : ℕ = 1 + cond t 1 0 in n) (le-ltb grade level (leb-true level grade is))
      step false is = ap (λ t. let n : ℕ = 0 + cond t 1 0 in n) (lt-ltb grade level (leb-false level grade is))

  both-count : (xs : List Text)
      → count_by (λ doc. is_relevant level (f doc)) (filter has xs) + count_by (λ doc. is_non_relevant level (f doc)) (filter has xs) ≡ length (filter has xs)
  both-count [] = refl
  both-count (x ∷ xs) = step (has x) refl (both-count xs)
    where
      step : (t : Bool) → has x ≡ t → count_by (λ doc. is_relevant level (f doc)) (filter has xs)
          + count_by (λ doc. is_non_relevant level (f doc)) (filter has xs) ≡ length (filter has xs)
          → count_by (λ doc. is_relevant level (f doc)) (cond t (x ∷ filter has xs) (filter has xs))
          + count_by (λ doc. is_non_relevant level (f doc)) (cond t (x ∷ filter has xs) (filter has xs)) ≡ length (cond t (x ∷ filter has xs) (filter has xs))
      step true some rest =
          omega (
            arith,
            one-of-both (f x) some,
            rest,
            count_by-cons (λ doc. is_relevant level (f doc)) x (filter has xs),
            count_by-cons (λ doc. is_non_relevant level (f doc)) x (filter has xs),
          )
      step false none rest = rest

pub judged-count : (H : History) (topic : Text) → relevant_count H topic + non_relevant_count H topic ≡ length (graded_documents H topic)
judged-count H topic = both-count (level H topic) (effective H topic) (labelled_documents H topic)
