-- The runs' ranked lists, as the history has them, after one more entry.
use Rattle.std.proofs.Common.{◌≡◌, ◌≢◌, ◌||◌, ℕ, zero, suc, Bool, true, false, List, [], ◌∷◌, ◌++◌, Option, None, Some, length, map, refl, sym, ap, ◌∙◌, arith, eq-eqb}
use Rattle.std.specs.Prelude.{◌==◌, if◌then◌else◌, slice_get}
use Rattle.std.specs.Option.{option_map, option_map_or}
use Rattle.std.specs.Str.{bytes_eq}
use Rattle.std.proofs.lemmas.Bool.{eqb-true}
use Rattle.decimal_rank.specs.declared.naming.DocId.{DocId}
use Rattle.depth_pool.specs.declared.runs.RunId.{RunId}
use Rattle.assessment.specs.RunLists.{RankedLists, rankings_without, unless_empty, with_lists}
use Rattle.assessment.specs.TopicFacts.{TopicFacts}
use Rattle.rulebook.specs.Campaign.{History, Run, docs_on, is_withdrawn, runs, submitted_docnos}
use Rattle.rulebook.specs.Spelling.{differ}
use Rattle.rulebook.specs.Words.{Text}
use Rattle.campaign_core.specs.Growth.{BeginsWith}
use Rattle.campaign_core.specs.Numbering.Numbers.{are_named, docs_in, names_of}
use Rattle.campaign_core.specs.Assessments.RunScores.{list_in, ranked_on, run_at}
use Rattle.campaign_core.specs.Assessments.Topics.{topic_ids}
use Rattle.campaign_core.proofs.PageTexts.TopicCells.{run-named}
use Rattle.campaign_core.proofs.Entries.Runs.LiveRuns.{live-at, name_place, run-at-gone, run-at-last, run-at-left, run-at-others}
use Rattle.campaign_core.proofs.Numbers.DocNumbers.{docs-kept, each_named}
use Rattle.campaign_core.proofs.PageTexts.PoolTexts.{lists-named}

-- the lists of the runs that were there
list-stays : (H : History) (names : List Text) (topic : Text) (number : RunId) → BeginsWith (names_of H) names
    → option_map_or (ranked_on names topic) (run_at H number) None ≡ option_map_or (ranked_on (names_of H) topic) (run_at H number) None
list-stays H names topic number grown = step (run_at H number) refl
  where
    step : (o : Option Run) → run_at H number ≡ o → option_map_or (ranked_on names topic) o None ≡ option_map_or (ranked_on (names_of H) topic) o None
    step None is = refl
    step (Some run) is =
        let live = live-at H number run is in
        let named : are_named (names_of H) (docs_on run.lists topic) ≡ true =
        lists-named (names_of H) run.lists (run-named (names_of H) (runs H) number.0 run (each_named (submitted_docnos H)) live.there) topic in
        ap (λ (docs : List DocId). unless_empty docs) (docs-kept (names_of H) names (docs_on run.lists topic) grown named)

slice-map : {X Y : Type 0} (f : X → Y) (xs : List X) (i : ℕ) → slice_get (map f xs) i ≡ option_map f (slice_get xs i)
slice-map f [] i = refl
slice-map f (x ∷ xs) zero = refl
slice-map f (x ∷ xs) (suc i) = slice-map f xs i

-- no list where there is no run
pub none-listed : (names ids : List Text) (on : ℕ) → list_in names ids None on ≡ None
none-listed names ids on = step (slice_get ids on)
  where
    step : (o : Option Text) → (let no : Option (List DocId) = None in option_map_or (λ (id : Text). no) o no ≡ no)
    step None = refl
    step (Some id) = refl

module _ (H J : History) (new : Run) (run : RunId) (ts : List TopicFacts) (lists : RankedLists)
    (number : run.0 ≡ length (runs H)) (runs_are : runs J ≡ runs H ++ new ∷ [])
    (withdrawn_are : (name : Text) → is_withdrawn J name ≡ is_withdrawn H name) (live : is_withdrawn H new.name ≡ false)
    (grown : BeginsWith (names_of H) (names_of J)) (ids_are : map (λ (t : TopicFacts). t.id) ts ≡ topic_ids H) (same_ids : topic_ids J ≡ topic_ids H)
    (before : (other : RunId) (on : ℕ) → lists other on ≡ list_in (names_of H) (topic_ids H) (run_at H other) on) where
  abbrev docs : TopicFacts → List DocId
  docs t = docs_in (names_of J) (docs_on new.lists t.id)

  abbrev wanted : Option Run → Text → Option (List DocId)
  wanted o id = option_map_or (ranked_on (names_of J) id) o None

  mine : (other : RunId) → run.0 ≡ other.0 → run_at J other ≡ Some new
  mine other same = run-at-last H J new runs_are withdrawn_are live other (sym same ∙ number)

  others : (other : RunId) → run.0 ≢ other.0 → run_at H other ≡ run_at J other
  others other differs = sym (run-at-others H J new runs_are withdrawn_are other (λ same. differs (omega (arith, same, number))))

  ids-there : (on : ℕ) → slice_get (topic_ids H) on ≡ option_map (λ (t : TopicFacts). t.id) (slice_get ts on)
  ids-there on = ap (λ (ids : List Text). slice_get ids on) (sym ids_are) ∙ slice-map (λ (t : TopicFacts). t.id) ts on

  -- the lists of the run that enters
  own : (other : RunId) (on : ℕ) → run.0 ≡ other.0
      → option_map_or unless_empty (slice_get (map docs ts) on) (lists other on) ≡ list_in (names_of J) (topic_ids J) (run_at J other) on
  own other on same =
      ap (λ (o : Option (List DocId)). option_map_or unless_empty o (lists other on)) (slice-map docs ts on)
      ∙ step (slice_get ts on) (ids-there on)
      ∙ ap (λ (o : Option Run). option_map_or (wanted o) (slice_get (topic_ids H) on) None) (sym (mine other same))
      ∙ ap (λ (ids : List Text). list_in (names_of J) ids (run_at J other) on) (sym same_ids)
    where
      step : (o : Option TopicFacts) → slice_get (topic_ids H) on ≡ option_map (λ (t : TopicFacts). t.id) o
          → option_map_or unless_empty (option_map docs o) (lists other on) ≡ option_map_or (wanted (Some new)) (slice_get (topic_ids H) on) None
      step None is = before other on ∙ ap (λ (o : Option Text). option_map_or (λ id. option_map_or (ranked_on (names_of H) id) (run_at H other) None) o None) is
          ∙ ap (λ (o : Option Text). option_map_or (wanted (Some new)) o None) (sym is)
      step (Some t) is = ap (λ (o : Option Text). option_map_or (wanted (Some new)) o None) (sym is)

  -- the lists of the others
  kept-lists : (other : RunId) (on : ℕ) → run.0 ≢ other.0 → lists other on ≡ list_in (names_of J) (topic_ids J) (run_at J other) on
  kept-lists other on differs =
      before other on
      ∙ step (slice_get (topic_ids H) on)
      ∙ ap (λ (o : Option Run). option_map_or (wanted o) (slice_get (topic_ids H) on) None) (others other differs)
      ∙ ap (λ (ids : List Text). list_in (names_of J) ids (run_at J other) on) (sym same_ids)
    where
      step : (o : Option Text)
          → option_map_or (λ id. option_map_or (ranked_on (names_of H) id) (run_at H other) None) o None ≡ option_map_or (wanted (run_at H other)) o None
      step None = refl
      step (Some id) = sym (list-stays H (names_of J) id other grown)

  pub run-lists : (other : RunId) (on : ℕ) → with_lists run (map docs ts) lists other on ≡ list_in (names_of J) (topic_ids J) (run_at J other) on
  run-lists other on = step (run.0 == other.0) refl
    where
      step : (t : Bool) → (run.0 == other.0) ≡ t → (if t then option_map_or unless_empty (slice_get (map docs ts) on) (lists other on) else lists other on)
          ≡ list_in (names_of J) (topic_ids J) (run_at J other) on
      step true test = own other on (eqb-true run.0 other.0 test)
      step false test = kept-lists other on (λ same. let yes : (run.0 == other.0) ≡ true = eq-eqb run.0 other.0 same in cc (yes, test))

-- The lists once a run is withdrawn.

module _ (H J : History) (name : Text) (run : RunId) (lists : RankedLists) (runs_are : runs J ≡ runs H)
    (withdrawn_are : (other : Text) → is_withdrawn J other ≡ (is_withdrawn H other || bytes_eq name other))
    (differs : differ (map (λ (run : Run). run.name) (runs H)) ≡ true) (number : run.0 ≡ name_place name (runs H))
    (names_are : names_of J ≡ names_of H) (ids_are : topic_ids J ≡ topic_ids H)
    (before : (other : RunId) (on : ℕ) → lists other on ≡ list_in (names_of H) (topic_ids H) (run_at H other) on) where
  left-lists : (other : RunId) (on : ℕ) → run.0 ≢ other.0 → lists other on ≡ list_in (names_of J) (topic_ids J) (run_at J other) on
  left-lists other on differ =
      before other on
      ∙ ap (λ (o : Option Run). list_in (names_of H) (topic_ids H) o on)
      (sym (run-at-left H J name run.0 runs_are withdrawn_are differs number other (λ same. differ (sym same))))
      ∙ ap (λ (names : List Text). list_in names (topic_ids H) (run_at J other) on) (sym names_are)
      ∙ ap (λ (ids : List Text). list_in (names_of J) ids (run_at J other) on) (sym ids_are)

  gone-lists : (other : RunId) (on : ℕ) → run.0 ≡ other.0 → None ≡ list_in (names_of J) (topic_ids J) (run_at J other) on
  gone-lists other on same =
      sym (none-listed (names_of J) (topic_ids J) on)
      ∙ ap (λ (o : Option Run). list_in (names_of J) (topic_ids J) o on)
      (sym (run-at-gone H J name run.0 runs_are withdrawn_are differs number other (sym same)))

  pub lists-without : (other : RunId) (on : ℕ) → rankings_without run lists other on ≡ list_in (names_of J) (topic_ids J) (run_at J other) on
  lists-without other on = step (run.0 == other.0) refl
    where
      step : (t : Bool) → (run.0 == other.0) ≡ t → (if t then None else lists other on) ≡ list_in (names_of J) (topic_ids J) (run_at J other) on
      step true test = gone-lists other on (eqb-true run.0 other.0 test)
      step false test = left-lists other on (λ same. let yes : (run.0 == other.0) ≡ true = eq-eqb run.0 other.0 same in cc (yes, test))
