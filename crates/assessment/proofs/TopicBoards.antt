-- A board that stands for the grades of the topics.
use Rattle.std.proofs.Common.{◌≡◌, ◌+◌, ◌<◌, ◌≤◌, ◌^◌, ℕ, Bool, true, false, List, [], ◌∷◌, Option, None, Some, length, map, get_or, set, refl, sym, ap, subst, ◌∙◌, arith, eqb-true}
use Rattle.std.proofs.Math.ListN.{length-set}
use Rattle.std.specs.Prelude.{◌==◌, ◌&&◌, if◌then◌else◌, replicate, slice_get}
use Rattle.std.specs.List.{AllZip}
use Rattle.std.specs.Option.{IsSomeAnd, option_map_or}
use Rattle.std.proofs.lemmas.List.{length-map, get_or-map, map-set}
use Rattle.std.proofs.lemmas.List.Sums.{count_by-le-length}
use Rattle.std.proofs.lemmas.Slice.Zip.{AllZip-long}
use Rattle.std.proofs.lemmas.Option.{slice_get-get_or}
use Rattle.decimal_rank.specs.declared.naming.DocId.{DocId}
use Rattle.decimal_rank.proofs.Lists.{map-set_same, some-at}
use Rattle.depth_pool.specs.declared.runs.RunId.{RunId}
use Rattle.labels.specs.LabelledDocuments.{effective_at}
use Rattle.qrels_view.specs.Grades.{effective_in, is_non_relevant, is_relevant, with_grade}
use Rattle.qrels_view.specs.declared.grades.Graded.{Graded}
use Rattle.qrels_view.proofs.NewGrades.{at_most_one}
use Rattle.score_index.specs.Scores.{Scores, TopicScores, board_levels, run_docs_at, steps_of, topic_scores_at}
use Rattle.score_index.specs.BoardGrades.{StandsAt, StandsFor, StandsWith, StaysSmall, grades_at, non_relevant_of, relevant_of}
use Rattle.assessment.specs.Costs.{grade_steps, pool_size}
use Rattle.assessment.specs.RunLists.{unless_empty}
use Rattle.assessment.specs.TopicFacts.{AwaitsJudgement, AwaitsRun, MayJudge, TopicFacts, TopicView, facts_of, judgement_doc, new_topic, topic_with_judgement, topic_with_list, view_grades}
use Rattle.assessment.specs.TopicsFacts.{IsStanding, TopicsFacts, TopicsView, after_judgement, after_list, at_place, facts_by, judgement_topic}
use Rattle.assessment.specs.declared.change.Judgement.{Judgement}
use Rattle.assessment.specs.declared.change.Judgement.TheVariants as mark
use Rattle.assessment.specs.declared.topic.TopicRules.{TopicRules}
use Rattle.assessment.proofs.ListFacts.{set-at_place}
use Rattle.assessment.proofs.RunChanges.RunSteps.{grades-by, through, told-is}

-- it has as many topics
pub as-long : (board : Scores) (topics : List TopicView) → StandsFor board (map view_grades topics) → length board.topics ≡ length topics
as-long board topics stands = sym (AllZip-long StandsAt board.topics (map view_grades topics) stands) ∙ length-map topics view_grades

-- the grades of a topic
pub graded-at : (topics : List TopicView) (i : ℕ) (T : TopicView) → i < length topics → T ≡ get_or topics i T
    → grades_at (map view_grades topics) i ≡ T.facts.graded
graded-at topics i T within there = get_or-map view_grades topics i T [] within ∙ ap view_grades (sym there)

-- the facts of the topics after one of them changed
pub facts-then : (change : TopicFacts → TopicFacts) (topics : List TopicView) (i : ℕ) (T U : TopicView)
    → i < length topics → T ≡ get_or topics i T → U.facts ≡ change T.facts
    → map facts_of (set topics i U) ≡ at_place i change (map facts_of topics)
facts-then change topics i T U within there is =
    let before : T.facts ≡ get_or (map facts_of topics) i T.facts = ap facts_of there ∙ sym (get_or-map facts_of topics i T T.facts within) in
    map-set facts_of topics i U
    ∙ ap (set (map facts_of topics) i) (is ∙ ap change before)
    ∙ set-at_place change (map facts_of topics) i T.facts

-- what a grade on a topic takes: its pool's runs and one more, and then the lists
pub steps-then : (runs : List RunId) (board : Scores) (topics : List TopicView) (i : ℕ) (T : TopicView) (before between after : ℕ)
    → i < length topics → T ≡ get_or topics i T
    → between ≤ before + length T.facts.pool + 1 → after ≤ between + steps_of runs (topic_scores_at board i)
    → after ≤ before + grade_steps runs i (facts_by topics board)
steps-then runs board topics i T before between after within there first second =
    let there_is : slice_get (map facts_of topics) i ≡ Some T.facts =
    slice_get-get_or (map facts_of topics) i T.facts (omega (arith, within, length-map topics facts_of))
    ∙ ap (λ (facts : TopicFacts). Some facts) (get_or-map facts_of topics i T T.facts within ∙ ap facts_of (sym there)) in
    let pool : pool_size i (facts_by topics board) ≡ length T.facts.pool =
    ap (λ (o : Option TopicFacts). option_map_or (λ topic. length topic.pool) o 0) there_is in
    omega (arith, first, second, pool)

-- ---- a mark

-- the grade that a document has with a mark
abbrev marked_as : Judgement → TopicFacts → Option ℕ
marked_as m topic = effective_at topic.need (topic_with_judgement m topic).marked (judgement_doc m)

graded-by : (m : Judgement) (topic : TopicFacts) → (topic_with_judgement m topic).graded ≡ with_grade (judgement_doc m) (marked_as m topic) topic.graded
graded-by (mark.Label label) topic = refl
graded-by (mark.Ruling ruling) topic = refl

needed-by : (m : Judgement) (topic : TopicFacts)
    → effective_at (topic_with_judgement m topic).need (topic_with_judgement m topic).marked (judgement_doc m) ≡ marked_as m topic
needed-by (mark.Label label) topic = refl
needed-by (mark.Ruling ruling) topic = refl

after-mark : (m : Judgement) (all : TopicsFacts)
    → after_judgement m all ≡ record all { topics = at_place (judgement_topic m) (topic_with_judgement m) all.topics }
after-mark (mark.Label label) all = refl
after-mark (mark.Ruling ruling) all = refl

few-grades : (m : Judgement) (topic : TopicFacts) → MayJudge m topic → length topic.graded < 268435456
few-grades (mark.Label label) topic may = may.few_grades
few-grades (mark.Ruling ruling) topic may = may.few_grades

-- The topic T gets a mark, which makes it U; the document had the grade `old`.
pub record IsMarked (board : Scores) (topics : List TopicView) (m : Judgement) (i : ℕ) (doc : DocId) (T U : TopicView) (old : Option ℕ) : Type 0 where
  pub i_is : i ≡ judgement_topic m
  pub doc_is : doc ≡ judgement_doc m
  pub there : T ≡ get_or topics i T
  pub standing : IsStanding topics board
  pub marked : U.facts ≡ topic_with_judgement m T.facts
  pub old_is : old ≡ effective_in T.facts.graded doc
  pub room : IsSomeAnd (slice_get topics (judgement_topic m)) (AwaitsJudgement (judgement_doc m))
  pub may : IsSomeAnd (slice_get (map facts_of topics) (judgement_topic m)) (MayJudge m)

pub is-marked : {v : TopicsView} {board : Scores} {topics : List TopicView} {m : Judgement} {i : ℕ} {doc : DocId} {T U : TopicView} {old : Option ℕ}
    → (let all : TopicsView = record { topics = topics; board = board } in all ≡ v)
    → i ≡ judgement_topic m → doc ≡ judgement_doc m → T ≡ get_or topics i T → IsStanding topics board
    → U.facts ≡ topic_with_judgement m T.facts → old ≡ effective_in T.facts.graded (judgement_doc m)
    → IsSomeAnd (slice_get v.topics (judgement_topic m)) (AwaitsJudgement (judgement_doc m))
    → IsSomeAnd (slice_get (map facts_of v.topics) (judgement_topic m)) (MayJudge m) → IsMarked board topics m i doc T U old
is-marked {m = m} {T = T} view_is i_is doc_is there standing marked old_is room may = record {
  i_is = i_is;
  doc_is = doc_is;
  there = there;
  standing = standing;
  marked = marked;
  old_is = old_is ∙ ap (λ (d : DocId). effective_in T.facts.graded d) (sym doc_is);
  room = subst (λ (v : TopicsView). IsSomeAnd (slice_get v.topics (judgement_topic m)) (AwaitsJudgement (judgement_doc m))) (sym view_is) room;
  may = subst (λ (v : TopicsView). IsSomeAnd (slice_get (map facts_of v.topics) (judgement_topic m)) (MayJudge m)) (sym view_is) may;
}

module _ {board : Scores} {topics : List TopicView} {m : Judgement} {i : ℕ} {doc : DocId} {T U : TopicView} {old : Option ℕ}
    (at : IsMarked board topics m i doc T U old) where
  abbrev graded : List Graded
  graded = grades_at (map view_grades topics) i

  mark-within : i < length topics
  mark-within = omega (arith, at.i_is, (some-at (AwaitsJudgement (judgement_doc m)) topics (judgement_topic m) T at.room).0)

  pub board-within : i < length board.topics
  board-within = omega (arith, mark-within, as-long board topics at.standing.stands)

  here : graded ≡ T.facts.graded
  here = graded-at topics i T mark-within at.there

  few-topic : length T.facts.graded < 268435456
  few-topic =
      let there = ap (λ n. get_or (map facts_of topics) n T.facts) (sym at.i_is)
      ∙ get_or-map facts_of topics i T T.facts mark-within ∙ ap facts_of (sym at.there) in
      few-grades m T.facts (subst (MayJudge m) there (some-at (MayJudge m) (map facts_of topics) (judgement_topic m) T.facts at.may).1)

  pub stands-with : StandsAt (topic_scores_at board i) graded → StandsWith (topic_scores_at board i) doc old
  stands-with stands = record {
    graded = T.facts.graded;
    stands = subst (StandsAt (topic_scores_at board i)) here stands;
    grade_is = sym at.old_is;
  }

  pub stays-small : StandsAt (topic_scores_at board i) graded → (new : Option ℕ) → StaysSmall (topic_scores_at board i).level (topic_scores_at board i) old new
  stays-small stands new = let level = (topic_scores_at board i).level in record {
    relevant = omega (
      arith,
      stands.relevant_is,
      ap (relevant_of level) here,
      count_by-le-length (λ (one : Graded). is_relevant level one.grade) T.facts.graded,
      few-topic,
      at_most_one (is_relevant level new),
    );
    non_relevant = omega (
      arith,
      stands.non_relevant_is,
      ap (non_relevant_of level) here,
      count_by-le-length (λ (one : Graded). is_non_relevant level one.grade) T.facts.graded,
      few-topic,
      at_most_one (is_non_relevant level new),
    );
  }

  pub marked-facts : (later : Scores) → ((run : RunId) (on : ℕ) → run_docs_at later run on ≡ run_docs_at board run on) → board_levels later ≡ board_levels board
      → facts_by (set topics i U) later ≡ after_judgement m (facts_by topics board)
  marked-facts later lists levels =
      told-is (set topics i U) later (record (facts_by topics board) { topics = at_place i (topic_with_judgement m) (map facts_of topics) })
      (facts-then (topic_with_judgement m) topics i T U mark-within at.there at.marked) lists levels
      ∙ ap (λ n. let all : TopicsFacts = record (facts_by topics board) { topics = at_place n (topic_with_judgement m) (map facts_of topics) } in all) at.i_is
      ∙ sym (after-mark m (facts_by topics board))

  pub marked-standing : (later : Scores) (new : Option ℕ) → new ≡ effective_at U.facts.need U.facts.marked (judgement_doc m)
      → ((grades : List (List Graded)) → StandsFor board grades → effective_in (grades_at grades i) doc ≡ old
      → StandsFor later (set grades i (with_grade doc new (grades_at grades i))))
      → IsStanding (set topics i U) later
  marked-standing later new new_is step =
      let graded_is : U.facts.graded ≡ with_grade doc (marked_as m T.facts) T.facts.graded =
      ap (λ (facts : TopicFacts). facts.graded) at.marked ∙ graded-by m T.facts
      ∙ ap (λ (d : DocId). with_grade d (marked_as m T.facts) T.facts.graded) (sym at.doc_is) in
      let same : new ≡ marked_as m T.facts = new_is ∙ ap (λ (facts : TopicFacts). effective_at facts.need facts.marked (judgement_doc m)) at.marked
      ∙ needed-by m T.facts in
      let put : with_grade doc new graded ≡ U.facts.graded =
      ap (λ (g : List Graded). with_grade doc new g) here ∙ ap (λ (o : Option ℕ). with_grade doc o T.facts.graded) same ∙ sym graded_is in
      record {
        few = omega (arith, at.standing.few, length-set topics i U);
        stands = subst (StandsFor later) (ap (set (map view_grades topics) i) put ∙ sym (map-set view_grades topics i U))
            (step (map view_grades topics) at.standing.stands (ap (λ (g : List Graded). effective_in g doc) here ∙ sym at.old_is));
      }

  -- what it takes: the pool's runs and one more, and then the lists
  pub marked-steps : (runs : List RunId) (before between after : ℕ) → between ≤ before + length T.facts.pool + 1
      → after ≤ between + steps_of runs (topic_scores_at board i) → after ≤ before + grade_steps runs (judgement_topic m) (facts_by topics board)
  marked-steps runs before between after first second =
      subst (λ n. after ≤ before + grade_steps runs n (facts_by topics board)) at.i_is
      (steps-then runs board topics i T before between after mark-within at.there first second)

-- ---- a run's list

unless-filled : (docs : List DocId) → 0 < length docs → unless_empty docs ≡ Some docs
unless-filled [] filled = absurd (omega (arith, filled))
unless-filled (doc ∷ docs) filled = refl

unless-none : (docs : List DocId) → length docs ≡ 0 → unless_empty docs ≡ None
unless-none [] none = refl
unless-none (doc ∷ docs) none = absurd (omega (arith, none))

-- A run with this list enters the topic T, which makes it U.
pub record HasEntered (board : Scores) (topics : List TopicView) (number : ℕ) (run : RunId) (docs : List DocId) (T U : TopicView) : Type 0 where
  pub within : number < length topics
  pub there : T ≡ get_or topics number T
  pub standing : IsStanding topics board
  pub entered : U.facts ≡ topic_with_list run docs T.facts

pub has-entered : {v : TopicsView} {board : Scores} {topics : List TopicView} {number : ℕ} {run : RunId} {docs : List DocId} {T U : TopicView}
    → (let all : TopicsView = record { topics = topics; board = board } in all ≡ v)
    → IsSomeAnd (slice_get v.topics number) (AwaitsRun docs) → T ≡ get_or topics number T → IsStanding topics board
    → U.facts ≡ topic_with_list run docs T.facts → HasEntered board topics number run docs T U
has-entered {v} {number = number} {docs = docs} {T = T} view_is room there standing entered = record {
  within = omega (arith, (some-at (AwaitsRun docs) v.topics number T room).0, ap (λ (v : TopicsView). length v.topics) view_is);
  there = there;
  standing = standing;
  entered = entered;
}

module _ {board : Scores} {topics : List TopicView} {number : ℕ} {run : RunId} {docs : List DocId} {T U : TopicView}
    (at : HasEntered board topics number run docs T U) where
  pub entered-within : number < length board.topics
  entered-within = omega (arith, at.within, as-long board topics at.standing.stands)

  -- the board stands for the topic's grades, which stay
  pub stands-entered : {seen : List Graded} → seen ≡ U.facts.graded → StandsAt (topic_scores_at board number) (grades_at (map view_grades topics) number)
      → StandsAt (topic_scores_at board number) seen
  stands-entered seen_is stands =
      subst (StandsAt (topic_scores_at board number))
      (graded-at topics number T at.within at.there ∙ sym (ap (λ (facts : TopicFacts). facts.graded) at.entered) ∙ sym seen_is) stands

  pub entered-facts : (later : Scores)
      → ((other : RunId) (on : ℕ) → run_docs_at later other on
      ≡ (if (run.0 == other.0) && (number == on) then unless_empty docs else run_docs_at board other on)) → board_levels later ≡ board_levels board
      → facts_by (set topics number U) later ≡ after_list number run docs (facts_by topics board)
  entered-facts later lists levels =
      told-is (set topics number U) later (after_list number run docs (facts_by topics board))
      (facts-then (topic_with_list run docs) topics number T U at.within at.there at.entered) lists levels

  -- with its list on the board
  pub entered-standing : (later : Scores) {seen : List Graded} → seen ≡ U.facts.graded
      → ((grades : List (List Graded)) → StandsFor board grades → StandsFor later (set grades number seen)) → IsStanding (set topics number U) later
  entered-standing later seen_is step = record {
    few = omega (arith, at.standing.few, length-set topics number U);
    stands = subst (StandsFor later) (ap (set (map view_grades topics) number) seen_is ∙ sym (map-set view_grades topics number U))
        (step (map view_grades topics) at.standing.stands);
  }

  -- without one, where it is empty
  pub left-standing : IsStanding (set topics number U) board
  left-standing = record {
    few = omega (arith, at.standing.few, length-set topics number U);
    stands = subst (StandsFor board)
        (sym (map-set_same view_grades topics number U T at.within (ap (λ (facts : TopicFacts). facts.graded) at.entered ∙ ap view_grades at.there)))
        at.standing.stands;
  }

-- a list on the board, or none where it is empty
module _ (board : Scores) (number : ℕ) (run : RunId) (docs : List DocId) where
  pub list-there : (later : Scores) → 0 < length docs
      → ((other : RunId) (on : ℕ) → run_docs_at later other on ≡ (if (run.0 == other.0) && (number == on) then Some docs else run_docs_at board other on))
      → (other : RunId) (on : ℕ) → run_docs_at later other on ≡ (if (run.0 == other.0) && (number == on) then unless_empty docs else run_docs_at board other on)
  list-there later filled lists other on =
      lists other on
      ∙ ap (λ (o : Option (List DocId)). if (run.0 == other.0) && (number == on) then o else run_docs_at board other on) (sym (unless-filled docs filled))

  pub list-none : length docs ≡ 0 → run_docs_at board run number ≡ None
      → (other : RunId) (on : ℕ) → run_docs_at board other on ≡ (if (run.0 == other.0) && (number == on) then unless_empty docs else run_docs_at board other on)
  list-none empty none other on = step (run.0 == other.0) refl (number == on) refl
    where
      step : (s : Bool) → (run.0 == other.0) ≡ s → (t : Bool) → (number == on) ≡ t
          → run_docs_at board other on ≡ (if s && t then unless_empty docs else run_docs_at board other on)
      step true same true at =
          let other_is : other ≡ run = ap (λ n. let r : RunId = record { 0 = n } in r) (sym (eqb-true run.0 other.0 same)) in
          ap (λ (r : RunId). run_docs_at board r on) other_is ∙ ap (λ n. run_docs_at board run n) (sym (eqb-true number on at))
          ∙ none ∙ sym (unless-none docs empty)
      step true same false _ = refl
      step false _ t _ = refl

-- a board that stands for a topic's grades still, with one more list
pub listed-standing : (topics : List TopicView) (board later : Scores) (number : ℕ) (T : TopicView) (seen : List Graded)
    → number < length topics → T ≡ get_or topics number T → seen ≡ T.facts.graded → IsStanding topics board
    → ((grades : List (List Graded)) → StandsFor board grades → StandsFor later (set grades number seen)) → IsStanding topics later
listed-standing topics board later number T seen within there seen_is standing step = record {
  few = standing.few;
  stands = subst (StandsFor later)
      (ap (set (map view_grades topics) number) seen_is ∙ sym (map-set view_grades topics number T)
      ∙ map-set_same view_grades topics number T T within (ap view_grades there))
      (step (map view_grades topics) standing.stands);
}

-- topics that keep their facts, with a board that keeps its topics
pub standing-same : (topics others : List TopicView) (board other : Scores) → map facts_of topics ≡ map facts_of others
    → board.topics ≡ other.topics → IsStanding others other → IsStanding topics board
standing-same topics others board other same_facts same_topics standing = record {
  few = omega (arith, sym (length-map topics facts_of) ∙ ap length same_facts ∙ length-map others facts_of, standing.few);
  stands =
      subst (λ (ts : List TopicScores). AllZip StandsAt ts (map view_grades topics)) (sym same_topics)
      (subst (StandsFor other) (sym (grades-by topics others (ap (map (λ (facts : TopicFacts). facts.graded)) same_facts))) standing.stands);
}

-- topics before any run have no grades
pub new-standing : (topics : List TopicView) (rules : List TopicRules) (board : Scores) → map facts_of topics ≡ map new_topic rules
    → length rules < 2 ^ 16 → StandsFor board (replicate (length rules) []) → IsStanding topics board
new-standing topics rules board same few stands = record {
  few = omega (arith, sym (length-map topics facts_of) ∙ ap length same ∙ length-map rules new_topic, few);
  stands = subst (StandsFor board) (sym (through topics ∙ ap (map (λ (facts : TopicFacts). facts.graded)) same ∙ none rules)) stands;
}
  where
    none : (rules : List TopicRules) → map (λ (facts : TopicFacts). facts.graded) (map new_topic rules) ≡ replicate (length rules) []
    none [] = refl
    none (r ∷ rules) = ap (λ (gs : List (List Graded)). [] ∷ gs) (none rules)
