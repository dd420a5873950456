-- A run's lists, one topic after another.
use Rattle.std.proofs.Common.{◌≡◌, ◌<◌, ℕ, zero, suc, Bool, true, false, List, [], ◌∷◌, ◌++◌, Option, None, length, map, get_or, refl, sym, ap, ◌∙◌, arith}
use Rattle.std.specs.Prelude.{◌==◌, ◌&&◌, if◌then◌else◌, slice_get, slice_index_or}
use Rattle.std.specs.Option.{option_map_or}
use Rattle.std.proofs.Math.Dec.{eqb-suc-suc, eqb-suc-zero, eqb-zero-suc}
use Rattle.decimal_rank.specs.declared.naming.DocId.{DocId}
use Rattle.depth_pool.specs.declared.runs.RunId.{RunId}
use Rattle.qrels_view.specs.declared.grades.Graded.{Graded}
use Rattle.score_index.specs.Scores.{Scores, TopicScores, board_levels, no_topic, run_docs, run_docs_at}
use Rattle.assessment.specs.RunLists.{RankedLists, each_with_list, unless_empty, with_lists}
use Rattle.assessment.specs.TopicFacts.{TopicFacts, TopicView, facts_of, topic_with_list, view_grades, without_list}
use Rattle.assessment.specs.TopicsFacts.{TopicsFacts, at_place, facts_by}

-- what topics and a board tell, from its parts
pub told-is : (topics : List TopicView) (board : Scores) (all : TopicsFacts) → map facts_of topics ≡ all.topics
    → ((run : RunId) (on : ℕ) → run_docs_at board run on ≡ all.lists run on) → board_levels board ≡ all.levels → facts_by topics board ≡ all
told-is topics board all same_topics same_lists same_levels =
    λ i. record { topics = same_topics i; lists = λ run on. same_lists run on i; levels = same_levels i }

-- topics and a board that tell the same
pub told-same : (topics others : List TopicView) (board other : Scores) → map facts_of topics ≡ map facts_of others
    → board.topics ≡ other.topics → facts_by topics board ≡ facts_by others other
told-same topics others board other same_facts same_topics =
    told-is topics board (facts_by others other) same_facts (λ run on. ap (λ (ts : List TopicScores). run_docs run (slice_index_or ts on no_topic)) same_topics)
    (ap (map (λ (topic : TopicScores). topic.level)) same_topics)

-- one more topic gets its list
pub each-more : (run : RunId) (lists : List (List DocId)) (docs : List DocId) (topics : List TopicFacts) → length lists < length topics
    → each_with_list run (lists ++ docs ∷ []) topics ≡ at_place (length lists) (topic_with_list run docs) (each_with_list run lists topics)
each-more run lists docs [] within = absurd (omega (arith, within))
each-more run [] docs (topic ∷ topics) within = refl
each-more run (first ∷ lists) docs (topic ∷ topics) within =
    ap (λ ts. topic_with_list run first topic ∷ ts) (each-more run lists docs topics (omega (arith, within)))

pub each-long : (run : RunId) (lists : List (List DocId)) (topics : List TopicFacts) → length (each_with_list run lists topics) ≡ length topics
each-long run [] topics = refl
each-long run (docs ∷ lists) [] = refl
each-long run (docs ∷ lists) (topic ∷ topics) = ap suc (each-long run lists topics)

-- the topics behind them are as they were
pub each-behind : (run : RunId) (lists : List (List DocId)) (topics : List TopicFacts) (d : TopicFacts)
    → get_or (each_with_list run lists topics) (length lists) d ≡ get_or topics (length lists) d
each-behind run [] topics d = refl
each-behind run (docs ∷ lists) [] d = refl
each-behind run (docs ∷ lists) (topic ∷ topics) d = each-behind run lists topics d

-- one more list of the run on the board
pub lists-more : (run : RunId) (lists : List (List DocId)) (docs : List DocId) (before : RankedLists) (other : RunId) (on : ℕ)
    → (if (run.0 == other.0) && (length lists == on) then unless_empty docs else with_lists run lists before other on)
    ≡ with_lists run (lists ++ docs ∷ []) before other on
lists-more run lists docs before other on = step (run.0 == other.0)
  where
    at : (lists : List (List DocId)) (on : ℕ) (rest : Option (List DocId))
        → (if length lists == on then unless_empty docs else option_map_or unless_empty (slice_get lists on) rest)
        ≡ option_map_or unless_empty (slice_get (lists ++ docs ∷ []) on) rest
    at [] zero rest = refl
    at [] (suc on) rest = ap (λ t. if t then unless_empty docs else rest) (eqb-zero-suc on)
    at (first ∷ lists) zero rest = ap (λ t. if t then unless_empty docs else unless_empty first) (eqb-suc-zero (length lists))
    at (first ∷ lists) (suc on) rest =
        ap (λ t. if t then unless_empty docs else option_map_or unless_empty (slice_get lists on) rest) (eqb-suc-suc (length lists) on) ∙ at lists on rest

    step : (t : Bool)
        → (if t && (length lists == on) then unless_empty docs else
        (if t then option_map_or unless_empty (slice_get lists on) (before other on) else before other on))
        ≡ (if t then option_map_or unless_empty (slice_get (lists ++ docs ∷ []) on) (before other on) else before other on)
    step true = at lists on (before other on)
    step false = refl

-- behind a run's lists there is none of it
pub none-behind : {X : Type 0} (xs : List X) → slice_get xs (length xs) ≡ None
none-behind [] = refl
none-behind (x ∷ xs) = none-behind xs

pub no-list-yet : (run : RunId) (lists : List (List DocId)) (before : RankedLists) → before run (length lists) ≡ None
    → with_lists run lists before run (length lists) ≡ None
no-list-yet run lists before none = step (run.0 == run.0)
  where
    step : (t : Bool)
        → (if t then option_map_or unless_empty (slice_get lists (length lists)) (before run (length lists)) else before run (length lists)) ≡ None
    step true = ap (λ (o : Option (List DocId)). option_map_or unless_empty o (before run (length lists))) (none-behind lists) ∙ none
    step false = none

abbrev pub grades : TopicFacts → List Graded
grades topic = topic.graded

pub through : (topics : List TopicView) → map view_grades topics ≡ map grades (map facts_of topics)
through [] = refl
through (t ∷ topics) = ap (λ gs. view_grades t ∷ gs) (through topics)

pub grades-by : (topics others : List TopicView) → map grades (map facts_of topics) ≡ map grades (map facts_of others)
    → map view_grades topics ≡ map view_grades others
grades-by topics others same = through topics ∙ same ∙ sym (through others)

-- topics keep their grades where a run leaves
pub without-keeps : (run : RunId) (topics : List TopicFacts) → map grades (map (without_list run) topics) ≡ map grades topics
without-keeps run [] = refl
without-keeps run (topic ∷ topics) = ap (λ gs. topic.graded ∷ gs) (without-keeps run topics)

-- topics that have a run each, with its lists
pub each-alike : (run : RunId) (lists : List (List DocId)) (old new : List TopicView) → length new ≡ length old → length lists ≡ length old
    → ((k : ℕ) (d e : TopicView) (docs : List DocId) → k < length new → (get_or new k d).facts
    ≡ topic_with_list run (get_or lists k docs) (get_or old k e).facts) → map facts_of new ≡ each_with_list run lists (map facts_of old)
each-alike run [] [] [] long many alike = refl
each-alike run [] [] (n ∷ new) long many alike = cc long
each-alike run [] (o ∷ old) new long many alike = cc many
each-alike run (docs ∷ lists) [] new long many alike = cc many
each-alike run (docs ∷ lists) (o ∷ old) [] long many alike = cc long
each-alike run (docs ∷ lists) (o ∷ old) (n ∷ new) long many alike =
    let head : n.facts ≡ topic_with_list run docs o.facts = alike 0 n o docs (omega arith) in
    let rest : map facts_of new ≡ each_with_list run lists (map facts_of old) =
    each-alike run lists old new (omega (arith, long)) (omega (arith, many)) (λ k d e docs within. alike (suc k) d e docs (omega (arith, within))) in
    ap (λ t. t ∷ map facts_of new) head ∙ ap (λ ts. topic_with_list run docs o.facts ∷ ts) rest

-- topics keep their grades where a run enters
pub each-keeps : (run : RunId) (lists : List (List DocId)) (topics : List TopicFacts) → map grades (each_with_list run lists topics) ≡ map grades topics
each-keeps run [] topics = refl
each-keeps run (docs ∷ lists) [] = refl
each-keeps run (docs ∷ lists) (topic ∷ topics) = ap (λ gs. topic.graded ∷ gs) (each-keeps run lists topics)

-- no list of a run yet
pub no-lists : (run : RunId) (before : RankedLists) (other : RunId) (on : ℕ) → before other on ≡ with_lists run [] before other on
no-lists run before other on = step (run.0 == other.0)
  where
    step : (t : Bool) → before other on ≡ (if t then before other on else before other on)
    step true = refl
    step false = refl
