-- What a board keeps and tells, through each change.
use Rattle.std.proofs.Common.{◌≡◌, ℕ, zero, suc, ◌<◌, ◌≤◌, Bool, true, false, cond, not, ◌&&◌, eqb, List, [], ◌∷◌, Option, Some, None, get_or, length, map, replicate, set, refl, sym, ap, ◌∙◌, arith, subst}
use Rattle.std.specs.Prelude.{All, find}
use Rattle.std.specs.List.{AllZip}
use Rattle.std.specs.Option.{option_map}
use Rattle.std.proofs.lemmas.Bool.{eq-eqb, eqb-true, false≢true}
use Rattle.std.proofs.lemmas.Bool.Decides.{nat_tests}
use Rattle.std.proofs.lemmas.List.{get_or-map, length-map, length-set, map-set}
use Rattle.std.proofs.lemmas.List.Elements.{All-map, All-set}
use Rattle.decimal_rank.specs.declared.naming.DocId.{DocId}
use Rattle.depth_pool.specs.declared.runs.RunId.{RunId}
use Rattle.measures.specs.Cells.{cell_of}
use Rattle.qrels_view.specs.Grades.{is_non_relevant, is_relevant}
use Rattle.qrels_view.specs.declared.grades.Graded.{Graded}
use Rattle.score_index.specs.KeptBoards.{HasEmptyCell, IsKept, IsTopicKept, KeepsPlaces, list_regraded, scores_with_list, scores_without_run, spare, topic_scores, with_regrade, without}
use Rattle.score_index.specs.Scores.{ScoreList, Scores, TopicScores, is_of_run, new_topic_scores, no_topic, run_docs, topic_scores_at}
use Rattle.score_index.specs.BoardGrades.{StandsAt}
use Rattle.score_index.specs.declared.topics.ScoredTopic.{ScoredTopic}
use Rattle.score_index.proofs.KeptTopics.ListFacts.{zip-replicate, zip-set}
use Rattle.score_index.proofs.KeptTopics.ListsByRun.{others_have, placed-found}

-- ---- what is kept

pub all_seen : (P : TopicScores → Type 0) (f : TopicScores → TopicScores) (old new : List ScoredTopic)
    → ((topic : TopicScores) → P topic → P (f topic)) → map topic_scores new ≡ map f (map topic_scores old)
    → All (λ topic. P (topic_scores topic)) old → All (λ topic. P (topic_scores topic)) new
all_seen P f old new keeps are all k d within =
    let long : length new ≡ length old =
    sym (length-map new topic_scores) ∙ ap length are ∙ length-map (map topic_scores old) f ∙ length-map old topic_scores in
    let inside : k < length old = omega (arith, within, long) in
    let inside_map : k < length (map topic_scores old) = omega (arith, inside, length-map old topic_scores) in
    let same : f (topic_scores (get_or old k d)) ≡ topic_scores (get_or new k d) =
    ap f (sym (get_or-map topic_scores old k d no_topic inside)) ∙ sym (get_or-map f (map topic_scores old) k no_topic no_topic inside_map)
    ∙ ap (λ xs. get_or xs k no_topic) (sym are) ∙ get_or-map topic_scores new k d no_topic within in
    subst P same (keeps (topic_scores (get_or old k d)) (all k d inside))

pub kept_set : (topics : List ScoredTopic) (rooms after : ℕ) (i : ℕ) (new : ScoredTopic) → IsKept topics rooms → after ≤ rooms
    → IsTopicKept (topic_scores new) → HasEmptyCell new → after ≤ spare new
    → IsKept (set topics i new) after
kept_set topics rooms after i new kept fewer here empty place = record {
  few = omega (arith, kept.few, length-set topics i new);
  topics_are = All-set (λ topic. IsTopicKept (topic_scores topic)) topics i new here kept.topics_are;
  empties = All-set HasEmptyCell topics i new empty kept.empties;
  places = All-set (λ topic. after ≤ spare topic) topics i new place (λ k d within. let most = kept.places k d within in omega (arith, most, fewer));
}

pub empty_with_list : (was new : ScoredTopic) (list : ScoreList) → new.empty ≡ was.empty
    → topic_scores new ≡ scores_with_list list (topic_scores was) → HasEmptyCell was → HasEmptyCell new
empty_with_list was new list same is had = same ∙ had ∙ ap (λ (topic : TopicScores). cell_of [] topic.relevant topic.non_relevant topic.level) (sym is)

-- one topic that keeps its cell of the empty list, and has no less room
pub places_set : {old topics : List ScoredTopic} {i : ℕ} (d new : ScoredTopic) → KeepsPlaces old topics → i < length topics
    → (HasEmptyCell (get_or topics i d) → HasEmptyCell new) → spare (get_or topics i d) ≤ spare new
    → KeepsPlaces old (set topics i new)
places_set {old} {topics} {i} d new kept within same more = record {
  empties = λ all. All-set HasEmptyCell topics i new (same (kept.empties all i d within)) (kept.empties all);
  places = λ least all.
      let most : least ≤ spare (get_or topics i d) = kept.places least all i d within in
      All-set (λ (topic : ScoredTopic). least ≤ spare topic) topics i new (omega (arith, most, more)) (kept.places least all);
}

-- ---- what it stands for

pub stands_set : (topics : List ScoredTopic) (grades : List (List Graded)) (i : ℕ) (new : ScoredTopic) (graded : List Graded)
    → AllZip StandsAt (map topic_scores topics) grades
    → StandsAt (topic_scores new) graded → AllZip StandsAt (map topic_scores (set topics i new)) (set grades i graded)
stands_set topics grades i new graded stands here =
    subst (λ ts. AllZip StandsAt ts (set grades i graded)) (sym (map-set topic_scores topics i new))
    (zip-set StandsAt (map topic_scores topics) grades i (topic_scores new) graded stands here)

-- the levels of the topics, where one of them keeps its own
pub levels_set : (topics : List ScoredTopic) (i : ℕ) (was new : ScoredTopic) → i < length topics
    → was ≡ get_or topics i was → (topic_scores new).level ≡ (topic_scores was).level
    → map (λ (topic : TopicScores). topic.level) (map topic_scores (set topics i new)) ≡ map (λ (topic : TopicScores). topic.level) (map topic_scores topics)
levels_set [] i was new within is same = absurd (omega (arith, within))
levels_set (topic ∷ topics) zero was new within is same =
    ap (λ l. l ∷ map (λ (topic : TopicScores). topic.level) (map topic_scores topics)) (same ∙ ap (λ (t : ScoredTopic). t.level) is)
levels_set (topic ∷ topics) (suc i) was new within is same = ap (λ ls. topic.level ∷ ls) (levels_set topics i was new (omega (arith, within)) is same)

-- a topic of a board, of which contracts see these scores
pub record IsTopicOf (topics : List ScoredTopic) (rooms : ℕ) (scores : Scores) (i : ℕ) (was : ScoredTopic) : Type 0 where
  pub within : i < length topics
  pub at : get_or (map topic_scores topics) i no_topic ≡ topic_scores was
  pub topic_is : topic_scores_at scores i ≡ topic_scores was
  pub kept : IsTopicKept (topic_scores was)
  pub empty : HasEmptyCell was
  pub place : rooms ≤ spare was

pub topic-of : {topics : List ScoredTopic} {rooms : ℕ} {scores inside : Scores} {i : ℕ} {was : ScoredTopic}
    → inside ≡ scores → inside.topics ≡ map topic_scores topics → IsKept topics rooms
    → i < length scores.topics → was ≡ get_or topics i was → IsTopicOf topics rooms scores i was
topic-of {topics} {rooms} {scores} {inside} {i} {was} view_is topics_are kept there was_is = record {
  within = within;
  at = at;
  topic_is = ap (λ (s : Scores). topic_scores_at s i) (sym view_is) ∙ ap (λ (ts : List TopicScores). get_or ts i no_topic) topics_are ∙ at;
  kept = subst (λ (t : ScoredTopic). IsTopicKept (topic_scores t)) (sym was_is) (kept.topics_are i was within);
  empty = subst HasEmptyCell (sym was_is) (kept.empties i was within);
  place = subst (λ (t : ScoredTopic). rooms ≤ spare t) (sym was_is) (kept.places i was within);
}
  where
    within : i < length topics
    within = omega (arith, there, ap (λ (s : Scores). length s.topics) view_is, ap length topics_are, length-map topics topic_scores)

    at : get_or (map topic_scores topics) i no_topic ≡ topic_scores was
    at = get_or-map topic_scores topics i was no_topic within ∙ ap topic_scores (sym was_is)

-- the grades that it stands for
pub stands_here : {topics : List ScoredTopic} {rooms : ℕ} {scores : Scores} {i : ℕ} {was : ScoredTopic} (graded : List Graded)
    → IsTopicOf topics rooms scores i was
    → StandsAt (topic_scores_at scores i) graded → StandsAt (topic_scores was) graded
stands_here graded of stands = subst (λ topic. StandsAt topic graded) of.topic_is stands

-- ---- the lists

-- the documents of a run, where one topic changed
pub docs_set : (run : RunId) (topics : List ScoredTopic) (i on : ℕ) (new : ScoredTopic) → i < length topics
    → run_docs run (get_or (map topic_scores (set topics i new)) on no_topic)
    ≡ cond (eqb i on) (run_docs run (topic_scores new)) (run_docs run (get_or (map topic_scores topics) on no_topic))
docs_set run [] i on new within = absurd (omega (arith, within))
docs_set run (topic ∷ topics) zero zero new within = refl
docs_set run (topic ∷ topics) zero (suc on) new within =
    let apart : eqb 0 (suc on) ≡ false = grind (arith, nat_tests) in
    sym (ap (λ t. cond t (run_docs run (topic_scores new)) (run_docs run (get_or (map topic_scores topics) on no_topic))) apart)
docs_set run (topic ∷ topics) (suc i) zero new within =
    let apart : eqb (suc i) 0 ≡ false = grind (arith, nat_tests) in
    sym (ap (λ t. cond t (run_docs run (topic_scores new)) (run_docs run (topic_scores topic))) apart)
docs_set run (topic ∷ topics) (suc i) (suc on) new within =
    docs_set run topics i on new (omega (arith, within))
    ∙ ap (λ t. cond t (run_docs run (topic_scores new)) (run_docs run (get_or (map topic_scores topics) on no_topic))) (sucs i on)
  where
    sucs : (m n : ℕ) → eqb m n ≡ eqb (suc m) (suc n)
    sucs m n = grind (arith, nat_tests)

pub docs-with_list : (other : RunId) (list : ScoreList) (topic : TopicScores) → run_docs list.run topic ≡ None
    → run_docs other (scores_with_list list topic) ≡ cond (eqb list.run.0 other.0) (Some list.docs) (run_docs other topic)
docs-with_list other list topic new =
    ap (option_map (λ one. one.docs)) (placed-found other list topic.lists (others_have list.run topic.lists new)) ∙ step (eqb list.run.0 other.0)
  where
    step : (t : Bool) → option_map (λ one. one.docs) (cond t (Some list) (find (is_of_run other) topic.lists)) ≡ cond t (Some list.docs) (run_docs other topic)
    step true = refl
    step false = refl

docs-remarked : (run : RunId) (doc : DocId) (relevant lower : Bool) (rel low : ℕ) (lists : List ScoreList)
    → option_map (λ one. one.docs) (find (is_of_run run) (map (list_regraded doc relevant lower rel low) lists))
    ≡ option_map (λ one. one.docs) (find (is_of_run run) lists)
docs-remarked run doc relevant lower rel low [] = refl
docs-remarked run doc relevant lower rel low (list ∷ lists) = step (is_of_run run list) (docs-remarked run doc relevant lower rel low lists)
  where
    step : (t : Bool) → option_map (λ one. one.docs) (find (is_of_run run) (map (list_regraded doc relevant lower rel low) lists))
        ≡ option_map (λ one. one.docs) (find (is_of_run run) lists)
        → option_map (λ one. one.docs)
        (cond t (Some (list_regraded doc relevant lower rel low list)) (find (is_of_run run) (map (list_regraded doc relevant lower rel low) lists)))
        ≡ option_map (λ one. one.docs) (cond t (Some list) (find (is_of_run run) lists))
    step true rest = refl
    step false rest = rest

pub docs-with_regrade : (run : RunId) (level : ℕ) (doc : DocId) (old new : Option ℕ) (topic : TopicScores)
    → run_docs run (with_regrade level doc old new topic) ≡ run_docs run topic
docs-with_regrade run level doc old new topic =
    docs-remarked run doc (is_relevant level new) (is_non_relevant level new) (with_regrade level doc old new topic).relevant
    (with_regrade level doc old new topic).non_relevant topic.lists

none_either : (t : Bool) → let none : Option (List DocId) = None in none ≡ cond t none none
none_either true = refl
none_either false = refl

docs-without : (run other : RunId) (lists : List ScoreList) → option_map (λ one. one.docs) (find (is_of_run other) (without run lists))
    ≡ cond (eqb run.0 other.0) None (option_map (λ one. one.docs) (find (is_of_run other) lists))
docs-without run other [] = none_either (eqb run.0 other.0)
docs-without run other (list ∷ lists) = step (is_of_run run list) refl (is_of_run other list) refl (docs-without run other lists)
  where
    docs_found : Option ScoreList → Option (List DocId)
    docs_found = option_map (λ one. one.docs)

    later : Option ScoreList
    later = find (is_of_run other) lists

    step : (t : Bool) → is_of_run run list ≡ t → (s : Bool) → is_of_run other list ≡ s
        → option_map (λ one. one.docs) (find (is_of_run other) (without run lists))
        ≡ cond (eqb run.0 other.0) None (option_map (λ one. one.docs) (find (is_of_run other) lists))
        → option_map (λ one. one.docs) (find (is_of_run other) (cond (not t) (list ∷ without run lists) (without run lists)))
        ≡ cond (eqb run.0 other.0) None (option_map (λ one. one.docs) (cond s (Some list) (find (is_of_run other) lists)))
    step true here true there rest =
        let same : eqb run.0 other.0 ≡ true = eq-eqb run.0 other.0 (sym (eqb-true list.run.0 run.0 here) ∙ eqb-true list.run.0 other.0 there) in
        rest ∙ ap (λ t. cond t None (option_map (λ one. one.docs) (find (is_of_run other) lists))) same
        ∙ ap (λ t. cond t None (option_map (λ one. one.docs) (Some list))) (sym same)
    step true here false there rest = rest
    step false here true there rest =
        let apart : eqb run.0 other.0 ≡ false = differs (eqb run.0 other.0) refl in
        ap (λ t. option_map (λ one. one.docs) (cond t (Some list) (find (is_of_run other) (without run lists)))) there
        ∙ ap (λ t. cond t None (option_map (λ one. one.docs) (Some list))) (sym apart)
      where
        differs : (t : Bool) → eqb run.0 other.0 ≡ t → eqb run.0 other.0 ≡ false
        differs true is =
            let same : list.run.0 ≡ run.0 = eqb-true list.run.0 other.0 there ∙ sym (eqb-true run.0 other.0 is) in
            absurd (false≢true (sym here ∙ eq-eqb list.run.0 run.0 same))
        differs false is = is
    step false here false there rest =
        ap (λ t. option_map (λ one. one.docs) (cond t (Some list) (find (is_of_run other) (without run lists)))) there ∙ rest

pub docs_dropped : (run other : RunId) (topics : List TopicScores) (on : ℕ)
    → run_docs other (get_or (map (scores_without_run run) topics) on no_topic) ≡ cond (eqb run.0 other.0) None (run_docs other (get_or topics on no_topic))
docs_dropped run other [] on = none_either (eqb run.0 other.0)
docs_dropped run other (topic ∷ topics) zero = docs-without run other topic.lists
docs_dropped run other (topic ∷ topics) (suc on) = docs_dropped run other topics on

-- a list that was added
pub docs_added : (other : RunId) (topics : List ScoredTopic) (i on : ℕ) (was new : ScoredTopic) (list : ScoreList)
    → i < length topics → get_or (map topic_scores topics) i no_topic ≡ topic_scores was
    → topic_scores new ≡ scores_with_list list (topic_scores was) → run_docs list.run (topic_scores was) ≡ None
    → run_docs other (get_or (map topic_scores (set topics i new)) on no_topic)
    ≡ cond (eqb list.run.0 other.0 && eqb i on) (Some list.docs) (run_docs other (get_or (map topic_scores topics) on no_topic))
docs_added other topics i on was new list within was_is is none =
    docs_set other topics i on new within
    ∙ ap (λ docs. cond (eqb i on) docs (run_docs other (get_or (map topic_scores topics) on no_topic)))
    (ap (run_docs other) is ∙ docs-with_list other list (topic_scores was) none)
    ∙ step (eqb list.run.0 other.0) (eqb i on) refl
  where
    step : (s t : Bool) → eqb i on ≡ t
        → cond t (cond s (Some list.docs) (run_docs other (topic_scores was))) (run_docs other (get_or (map topic_scores topics) on no_topic))
        ≡ cond (s && t) (Some list.docs) (run_docs other (get_or (map topic_scores topics) on no_topic))
    step true true at = refl
    step true false at = refl
    step false true at = ap (run_docs other) (sym was_is) ∙ ap (λ k. run_docs other (get_or (map topic_scores topics) k no_topic)) (eqb-true i on at)
    step false false at = refl

-- a topic whose lists keep their documents
pub docs_kept : (run : RunId) (topics : List ScoredTopic) (i on : ℕ) (was new : ScoredTopic) → i < length topics
    → get_or (map topic_scores topics) i no_topic ≡ topic_scores was
    → run_docs run (topic_scores new) ≡ run_docs run (topic_scores was)
    → run_docs run (get_or (map topic_scores (set topics i new)) on no_topic) ≡ run_docs run (get_or (map topic_scores topics) on no_topic)
docs_kept run topics i on was new within was_is same = docs_set run topics i on new within ∙ step (eqb i on) refl
  where
    step : (t : Bool) → eqb i on ≡ t → cond t (run_docs run (topic_scores new)) (run_docs run (get_or (map topic_scores topics) on no_topic))
        ≡ run_docs run (get_or (map topic_scores topics) on no_topic)
    step true at = same ∙ ap (run_docs run) (sym was_is) ∙ ap (λ k. run_docs run (get_or (map topic_scores topics) k no_topic)) (eqb-true i on at)
    step false at = refl

-- ---- no list and no grade yet

pub none_listed : (run : RunId) (levels : List ℕ) (on : ℕ) → run_docs run (get_or (map new_topic_scores levels) on no_topic) ≡ None
none_listed run [] on = refl
none_listed run (level ∷ levels) zero = refl
none_listed run (level ∷ levels) (suc on) = none_listed run levels on

new_kept : (level : ℕ) → IsTopicKept (new_topic_scores level)
new_kept level = record {
  few_relevant = omega arith;
  few_non_relevant = omega arith;
  lists = λ k d within. absurd (omega (arith, within));
  by_run = λ i j d less within. absurd (omega (arith, within));
}

pub new_are_kept : (topics : List ScoredTopic) (levels : List ℕ) → map topic_scores topics ≡ map new_topic_scores levels
    → All (λ topic. IsTopicKept (topic_scores topic)) topics
new_are_kept topics levels are k d within =
    let inside : k < length levels = omega (arith, within, length-map topics topic_scores, ap length are, length-map levels new_topic_scores) in
    let same : new_topic_scores (get_or levels k 0) ≡ topic_scores (get_or topics k d) =
    sym (get_or-map new_topic_scores levels k 0 no_topic inside) ∙ ap (λ (ts : List TopicScores). get_or ts k no_topic) (sym are)
    ∙ get_or-map topic_scores topics k d no_topic within in
    subst IsTopicKept same (new_kept (get_or levels k 0))

pub new_levels : (levels : List ℕ) → map (λ (topic : TopicScores). topic.level) (map new_topic_scores levels) ≡ levels
new_levels [] = refl
new_levels (level ∷ levels) = ap (λ ls. level ∷ ls) (new_levels levels)

pub new_stands : (levels : List ℕ) → AllZip StandsAt (map new_topic_scores levels) (replicate (length levels) [])
new_stands levels =
    subst (λ n. AllZip StandsAt (map new_topic_scores levels) (replicate n [])) (length-map levels new_topic_scores)
    (zip-replicate StandsAt (map new_topic_scores levels) []
    (All-map (λ topic. StandsAt topic []) new_topic_scores levels (λ k d within. empty (get_or levels k d))))
  where
    empty : (level : ℕ) → StandsAt (new_topic_scores level) []
    empty level = record { relevant_is = refl; non_relevant_is = refl; lists_are = λ k d within. absurd (omega (arith, within)) }
