-- What a topic keeps, through each change.
use Rattle.std.proofs.Common.{◌≡◌, ◌<◌, ℕ, ◌+◌, ◌-◌, ◌≤◌, Bool, true, false, cond, eqb, not, List, [], ◌∷◌, Option, Some, None, count_by, get_or, length, map, nat_lt, refl, sym, ap, ◌∙◌, arith, subst, unwrap_or}
use Rattle.std.specs.Prelude.{All, find}
use Rattle.std.specs.List.{AllZip}
use Rattle.std.specs.Option.{option_map, option_map_or}
use Rattle.std.proofs.lemmas.List.{get_or-map, length-map}
use Rattle.std.proofs.lemmas.List.Kept.{AllPairs-filter}
use Rattle.std.proofs.lemmas.List.Elements.{All-filter, All-head, All-map, All-tail}
use Rattle.std.proofs.lemmas.Option.{same_Some}
use Rattle.decimal_rank.specs.Rankings.Places.{AreDistinct, place_in}
use Rattle.decimal_rank.specs.declared.naming.DocId.{DocId}
use Rattle.decimal_rank.proofs.Lists.{map-map}
use Rattle.depth_pool.specs.declared.runs.RunId.{RunId}
use Rattle.measures.specs.Cells.{cell_of}
use Rattle.qrels_view.specs.Grades.{as_number, effective_in, is_non_relevant, is_relevant, with_grade}
use Rattle.qrels_view.specs.declared.grades.Graded.{Graded}
use Rattle.rank_trees.specs.PlacesOn.{count_on}
use Rattle.qrels_view.proofs.NewGrades.{at_most_one, count-with_grade}
use Rattle.score_index.specs.KeptBoards.{AreByRun, IsListKept, IsTopicKept, has_grades, kept_cell, kept_cells, list_regraded, lower_in, put_at, relevant_places, scores_with_list, scores_without_run, with_regrade}
use Rattle.score_index.specs.KeptSums.{CanFollow, CanRemark, IsOnAt}
use Rattle.score_index.specs.Places.{cell_by}
use Rattle.score_index.specs.Scores.{ScoreList, TopicScores, is_of_run, run_docs}
use Rattle.score_index.specs.BoardGrades.{ListStandsFor, StandsAt, TopicStandsFor, cell_from, cells_of, grades_by_rank, is_counted_by, listed_in, non_relevant_of, relevant_of}
use Rattle.score_index.proofs.Cells.ByPlaces.{by-places, count-map}
use Rattle.score_index.proofs.GradeChanges.ListGrades.{effective-with_grade, listed_within, put-map}
use Rattle.score_index.proofs.KeptTopics.ListsByRun.{others_have, placed-all, placed-ordered}
use Rattle.score_index.proofs.KeptTopics.ListFacts.{chosen_alike}
use Rattle.score_index.proofs.GradeChanges.MarkedPlaces.{mark-at}

-- ---- a list

counted_listed : (p : Option ℕ → Bool) (none : p None ≡ false) (graded : List Graded) (docs : List DocId) → AreDistinct docs
    → count_on (map (λ doc. p (effective_in graded doc)) docs) ≤ count_by (λ one. p one.grade) graded
counted_listed p none graded docs distinct =
    let same = count-map p (map (effective_in graded) docs) ∙ ap count_on (map-map p (effective_in graded) docs) in
    omega (arith, same, listed_within p none graded docs distinct)

pub list_kept : (level : ℕ) (graded : List Graded) (list : ScoreList) → length list.docs ≤ 1000 → AreDistinct list.docs → ListStandsFor level graded list
    → list.rel ≡ relevant_of level graded → list.low ≡ non_relevant_of level graded → IsListKept (relevant_of level graded) (non_relevant_of level graded) list
list_kept level graded list few distinct stands rel low = record {
  few = few;
  distinct = distinct;
  relevant_within = omega (arith, ap count_on stands.relevant_are, counted_listed (is_relevant level) refl graded list.docs distinct);
  rel_is = rel;
  low_is = low;
}

-- what holds of each list holds of the one that is found
pub found_all : (P : ScoreList → Type 0) (test : ScoreList → Bool) (lists : List ScoreList) (list : ScoreList)
    → All P lists → find test lists ≡ Some list → P list
found_all P test [] list all found = cc
found_all P test (one ∷ lists) list all found = step (test one) (found_all P test lists list (All-tail P one lists all)) found
  where
    step : (t : Bool) → (find test lists ≡ Some list → P list) → cond t (Some one) (find test lists) ≡ Some list → P list
    step true rest is = subst P (same_Some one list is) (All-head P one lists all)
    step false rest is = rest is

-- ---- a topic

-- the counts that a list has are its topic's
abbrev HasCounts : ℕ → ℕ → ScoreList → Type 0
HasCounts rel low list = (list.rel ≡ rel) × (list.low ≡ low)

-- lists that keep their runs keep their order
ordered-map : (change : ScoreList → ScoreList) → ((list : ScoreList) → (change list).run ≡ list.run)
    → (lists : List ScoreList) → AreByRun lists → AreByRun (map change lists)
ordered-map change stays lists ordered = λ i j d less within.
    let long = length-map lists change in
    let behind : j < length lists = omega (arith, within, long) in
    subst (λ (r : RunId). r.0 < (get_or (map change lists) j d).run.0) (sym (run_at i d (omega (arith, less, behind))))
    (subst (λ (r : RunId). (get_or lists i d).run.0 < r.0) (sym (run_at j d behind)) (ordered i j d less behind))
  where
    run_at : (k : ℕ) (d : ScoreList) → k < length lists → (get_or (map change lists) k d).run ≡ (get_or lists k d).run
    run_at k d within = ap (λ (list : ScoreList). list.run) (get_or-map change lists k d d within) ∙ stays (get_or lists k d)

topic_kept : (level : ℕ) (topic : TopicScores) (graded : List Graded) → TopicStandsFor level topic graded
    → topic.relevant ≤ 268435456 → topic.non_relevant ≤ 268435456
    → All (λ list. length list.docs ≤ 1000) topic.lists → All (λ list. AreDistinct list.docs) topic.lists
    → All (HasCounts topic.relevant topic.non_relevant) topic.lists → AreByRun topic.lists → IsTopicKept topic
topic_kept level topic graded stands few others short distinct counts ordered = record {
  few_relevant = few;
  few_non_relevant = others;
  lists = λ k d within.
      subst (λ r. IsListKept r topic.non_relevant (get_or topic.lists k d)) (sym stands.relevant_is)
      (subst (λ n. IsListKept (relevant_of level graded) n (get_or topic.lists k d)) (sym stands.non_relevant_is)
      (list_kept level graded (get_or topic.lists k d) (short k d within) (distinct k d within) (stands.lists_are k d within)
      ((counts k d within).0 ∙ stands.relevant_is) ((counts k d within).1 ∙ stands.non_relevant_is)));
  by_run = ordered;
}

pub stands-with_list : (level : ℕ) (topic : TopicScores) (graded : List Graded) (list : ScoreList) → ListStandsFor level graded list
    → TopicStandsFor level topic graded → TopicStandsFor level (scores_with_list list topic) graded
stands-with_list level topic graded list are stands = record {
  relevant_is = stands.relevant_is;
  non_relevant_is = stands.non_relevant_is;
  lists_are = placed-all (ListStandsFor level graded) list topic.lists stands.lists_are are;
}

pub kept-with_list : (level : ℕ) (topic : TopicScores) (graded : List Graded) (list : ScoreList)
    → length list.docs ≤ 1000 → AreDistinct list.docs → ListStandsFor level graded list
    → list.rel ≡ topic.relevant → list.low ≡ topic.non_relevant → run_docs list.run topic ≡ None → TopicStandsFor level topic graded
    → IsTopicKept topic → IsTopicKept (scores_with_list list topic)
kept-with_list level topic graded list few distinct are rel low none stands kept =
    topic_kept level (scores_with_list list topic) graded (stands-with_list level topic graded list are stands) kept.few_relevant kept.few_non_relevant
    (placed-all (λ one. length one.docs ≤ 1000) list topic.lists (λ k d within. (kept.lists k d within).few) few)
    (placed-all (λ one. AreDistinct one.docs) list topic.lists (λ k d within. (kept.lists k d within).distinct) distinct)
    (placed-all (HasCounts topic.relevant topic.non_relevant) list topic.lists
    (λ k d within. ((kept.lists k d within).rel_is, (kept.lists k d within).low_is)) (rel, low))
    (placed-ordered list topic.lists kept.by_run (others_have list.run topic.lists none))

pub stands-without : (level : ℕ) (run : RunId) (topic : TopicScores) (graded : List Graded) → TopicStandsFor level topic graded
    → TopicStandsFor level (scores_without_run run topic) graded
stands-without level run topic graded stands = record {
  relevant_is = stands.relevant_is;
  non_relevant_is = stands.non_relevant_is;
  lists_are = All-filter (λ list. not (is_of_run run list)) (ListStandsFor level graded) topic.lists stands.lists_are;
}

pub kept-without : (run : RunId) (topic : TopicScores) → IsTopicKept topic → IsTopicKept (scores_without_run run topic)
kept-without run topic kept = record {
  few_relevant = kept.few_relevant;
  few_non_relevant = kept.few_non_relevant;
  lists = All-filter (λ list. not (is_of_run run list)) (IsListKept topic.relevant topic.non_relevant) topic.lists kept.lists;
  by_run = AllPairs-filter (λ one other. one.run.0 < other.run.0) (λ list. not (is_of_run run list)) topic.lists kept.by_run;
}

pub stands-regraded : (level : ℕ) (doc : DocId) (old new : Option ℕ) (topic : TopicScores) (graded : List Graded)
    → All (λ list. AreDistinct list.docs) topic.lists → effective_in graded doc ≡ old
    → TopicStandsFor level topic graded → TopicStandsFor level (with_regrade level doc old new topic) (with_grade doc new graded)
stands-regraded level doc old new topic graded distinct is stands = record {
  relevant_is = ap (λ r. r + as_number (is_relevant level new) - as_number (is_relevant level old)) stands.relevant_is
      ∙ count-with_grade (is_relevant level) refl doc old new graded is;
  non_relevant_is = ap (λ n. n + as_number (is_non_relevant level new) - as_number (is_non_relevant level old)) stands.non_relevant_is
      ∙ count-with_grade (is_non_relevant level) refl doc old new graded is;
  lists_are = All-map (ListStandsFor level (with_grade doc new graded))
      (list_regraded doc (is_relevant level new) (is_non_relevant level new) (with_regrade level doc old new topic).relevant
      (with_regrade level doc old new topic).non_relevant)
      topic.lists (λ k d within. each (get_or topic.lists k d) (distinct k d within) (stands.lists_are k d within));
}
  where
    changes : (p : Option ℕ → Bool) (d : DocId) → p (effective_in (with_grade doc new graded) d) ≡ cond (eqb d.0 doc.0) (p new) (p (effective_in graded d))
    changes p d = ap p (effective-with_grade doc new graded d) ∙ through (eqb d.0 doc.0)
      where
        through : (t : Bool) → p (cond t new (effective_in graded d)) ≡ cond t (p new) (p (effective_in graded d))
        through true = refl
        through false = refl

    each : (list : ScoreList) → AreDistinct list.docs → ListStandsFor level graded list
        → ListStandsFor level (with_grade doc new graded)
        (list_regraded doc (is_relevant level new) (is_non_relevant level new) (with_regrade level doc old new topic).relevant
        (with_regrade level doc old new topic).non_relevant list)
    each list apart one = record {
      relevant_are = ap (put_at (place_in list.docs doc) (is_relevant level new)) one.relevant_are
          ∙ put-map list.docs doc (is_relevant level new) (λ d. is_relevant level (effective_in graded d))
          (λ d. is_relevant level (effective_in (with_grade doc new graded) d)) apart (changes (is_relevant level));
      lower_are = ap (put_at (place_in list.docs doc) (is_non_relevant level new)) one.lower_are
          ∙ put-map list.docs doc (is_non_relevant level new) (λ d. is_non_relevant level (effective_in graded d))
          (λ d. is_non_relevant level (effective_in (with_grade doc new graded) d)) apart (changes (is_non_relevant level));
    }

pub kept-regraded : (level : ℕ) (doc : DocId) (old new : Option ℕ) (topic : TopicScores) (graded : List Graded) → effective_in graded doc ≡ old
    → (with_regrade level doc old new topic).relevant ≤ 268435456 → (with_regrade level doc old new topic).non_relevant ≤ 268435456
    → TopicStandsFor level topic graded → IsTopicKept topic → IsTopicKept (with_regrade level doc old new topic)
kept-regraded level doc old new topic graded is few others stands kept =
    topic_kept level (with_regrade level doc old new topic) (with_grade doc new graded)
    (stands-regraded level doc old new topic graded (λ k d within. (kept.lists k d within).distinct) is stands) few others
    (All-map (λ one. length one.docs ≤ 1000) change topic.lists (λ k d within. (kept.lists k d within).few))
    (All-map (λ one. AreDistinct one.docs) change topic.lists (λ k d within. (kept.lists k d within).distinct))
    (All-map (HasCounts (with_regrade level doc old new topic).relevant (with_regrade level doc old new topic).non_relevant) change topic.lists
    (λ k d within. (refl, refl)))
    (ordered-map change (λ list. refl) topic.lists kept.by_run)
  where
    change : ScoreList → ScoreList
    change = list_regraded doc (is_relevant level new) (is_non_relevant level new) (with_regrade level doc old new topic).relevant
        (with_regrade level doc old new topic).non_relevant

-- each list can follow the grade of a document
pub can-remark : (level : ℕ) (doc : DocId) (old new : Option ℕ) (topic : TopicScores) (graded : List Graded) → effective_in graded doc ≡ old
    → (with_regrade level doc old new topic).relevant ≤ 268435456 → (with_regrade level doc old new topic).non_relevant ≤ 268435456
    → TopicStandsFor level topic graded → IsTopicKept topic
    → All (CanRemark doc (is_relevant level old) (is_non_relevant level old) (with_regrade level doc old new topic).relevant
    (with_regrade level doc old new topic).non_relevant) topic.lists
can-remark level doc old new topic graded is few others stands kept =
    λ k d within. each (get_or topic.lists k d) (stands.lists_are k d within) (kept.lists k d within)
  where
    follows : (r n a b c e : ℕ) (list : ScoreList) → list.rel ≡ r → list.low ≡ n → r ≤ 268435456 → r + a - b ≤ 268435456 → n + c - e ≤ 268435456
        → a ≤ 1 → b ≤ 1 → c ≤ 1 → e ≤ 1 → CanFollow (r + a - b) (n + c - e) list
    follows r n a b c e list one two few still others h1 h2 h3 h4 = record {
      relevant_near = record {
        up = omega (arith, one, h1);
        down = omega (arith, one, h2);
        few = omega (arith, one, few);
        still_few = still;
      };
      cap_near = record {
        up = omega (arith, one, two, h1, h2, h3, h4);
        down = omega (arith, one, two, h1, h2, h3, h4);
        few = omega (arith, one, few);
        still_few = omega (arith, still);
      };
      few_lower = others;
    }

    each : (list : ScoreList) → ListStandsFor level graded list → IsListKept topic.relevant topic.non_relevant list
        → CanRemark doc (is_relevant level old) (is_non_relevant level old) (with_regrade level doc old new topic).relevant
        (with_regrade level doc old new topic).non_relevant list
    each list one here =
        record {
          relevant_at = subst (IsOnAt (place_in list.docs doc) (is_relevant level old)) (sym one.relevant_are)
              (mark-at (λ d. is_relevant level (effective_in graded d)) list.docs doc (is_relevant level old) (ap (is_relevant level) is));
          lower_at = subst (IsOnAt (place_in list.docs doc) (is_non_relevant level old)) (sym one.lower_are)
              (mark-at (λ d. is_non_relevant level (effective_in graded d)) list.docs doc (is_non_relevant level old) (ap (is_non_relevant level) is));
          follows = follows topic.relevant topic.non_relevant (as_number (is_relevant level new)) (as_number (is_relevant level old))
              (as_number (is_non_relevant level new)) (as_number (is_non_relevant level old))
              list here.rel_is here.low_is kept.few_relevant few others
              (at_most_one (is_relevant level new)) (at_most_one (is_relevant level old))
              (at_most_one (is_non_relevant level new)) (at_most_one (is_non_relevant level old));
        }

-- ---- cells

listed_alike : (p : Option ℕ → Bool) (marks : ScoreList → List Bool) (graded : List Graded) (run : RunId) (lists : List ScoreList)
    → All (λ list. marks list ≡ map (λ doc. p (effective_in graded doc)) list.docs) lists
    → option_map_or marks (find (is_of_run run) lists) []
    ≡ map (λ doc. p (effective_in graded doc)) (unwrap_or (option_map (λ one. one.docs) (find (is_of_run run) lists)) [])
listed_alike p marks graded run [] all = refl
listed_alike p marks graded run (list ∷ lists) all =
    step (is_of_run run list)
    (listed_alike p marks graded run lists (All-tail (λ one. marks one ≡ map (λ doc. p (effective_in graded doc)) one.docs) list lists all))
  where
    found : Bool → Option ScoreList
    found t = cond t (Some list) (find (is_of_run run) lists)

    step : (t : Bool) → option_map_or marks (find (is_of_run run) lists) []
        ≡ map (λ doc. p (effective_in graded doc)) (unwrap_or (option_map (λ one. one.docs) (find (is_of_run run) lists)) [])
        → option_map_or marks (found t) [] ≡ map (λ doc. p (effective_in graded doc)) (unwrap_or (option_map (λ one. one.docs) (found t)) [])
    step true rest = All-head (λ one. marks one ≡ map (λ doc. p (effective_in graded doc)) one.docs) list lists all
    step false rest = rest

pub cell_is : (level : ℕ) (run : RunId) (topic : TopicScores) (graded : List Graded) → TopicStandsFor level topic graded
    → kept_cell run topic ≡ cell_from level graded (listed_in run topic)
cell_is level run topic graded stands =
    ap (λ on. cell_by on (lower_in run topic) topic.relevant topic.non_relevant) relevant_are
    ∙ ap (λ on. cell_by (map (is_relevant level) (grades_by_rank graded (listed_in run topic))) on topic.relevant topic.non_relevant) lower_are
    ∙ sym (by-places (grades_by_rank graded (listed_in run topic)) topic.relevant topic.non_relevant level)
    ∙ ap (λ r. cell_of (grades_by_rank graded (listed_in run topic)) r topic.non_relevant level) stands.relevant_is
    ∙ ap (λ n. cell_of (grades_by_rank graded (listed_in run topic)) (relevant_of level graded) n level) stands.non_relevant_is
  where
    relevant_are : relevant_places run topic ≡ map (is_relevant level) (grades_by_rank graded (listed_in run topic))
    relevant_are = listed_alike (is_relevant level) (λ list. list.relevant) graded run topic.lists (λ k d within. (stands.lists_are k d within).relevant_are)
        ∙ sym (map-map (is_relevant level) (effective_in graded) (listed_in run topic))

    lower_are : lower_in run topic ≡ map (is_non_relevant level) (grades_by_rank graded (listed_in run topic))
    lower_are = listed_alike (is_non_relevant level) (λ list. list.lower) graded run topic.lists (λ k d within. (stands.lists_are k d within).lower_are)
        ∙ sym (map-map (is_non_relevant level) (effective_in graded) (listed_in run topic))

pub cells_are : (run : RunId) (topics : List TopicScores) (grades : List (List Graded)) → AllZip StandsAt topics grades
    → kept_cells run topics ≡ cells_of run topics grades
cells_are run topics grades stands =
    chosen_alike StandsAt has_grades (λ topic graded. is_counted_by topic.level graded) (kept_cell run)
    (λ topic graded. cell_from topic.level graded (listed_in run topic))
    (λ topic graded one. ap (λ r. nat_lt 0 (r + topic.non_relevant)) one.relevant_is
    ∙ ap (λ n. nat_lt 0 (relevant_of topic.level graded + n)) one.non_relevant_is)
    (λ topic graded one. cell_is topic.level run topic graded one)
    topics grades stands
