-- Runs that wait, as one more comes, one is withdrawn, and they come on the board.
use Rattle.std.proofs.Common.{◌≡◌, ◌<◌, ◌∙◌, ◌++◌, ◌∷◌, ℕ, suc, Bool, true, false, cond, not, List, [], Option, None, Some, length, map, refl, sym, ap, subst, arith, eq-eqb, eqb-true}
use Rattle.std.specs.Prelude.{◌==◌, All, filter, if◌then◌else◌, slice_get}
use Rattle.std.specs.Option.{option_map_or}
use Rattle.std.proofs.lemmas.List.{append_assoc, append-nil, length-append, length-map}
use Rattle.std.proofs.lemmas.List.Elements.{All-cons}
use Rattle.decimal_rank.specs.declared.naming.DocId.{DocId}
use Rattle.depth_pool.specs.declared.runs.RunId.{RunId}
use Rattle.assessment.specs.RunLists.{RankedLists, rankings_without, unless_empty, with_lists}
use Rattle.assessment.specs.TopicFacts.{facts_of}
use Rattle.assessment.specs.TopicsFacts.{TopicsFacts, TopicsView, after_lists, after_one_list, topics_facts}
use Rattle.assessment.specs.Changes.{with_waiting_lists}
use Rattle.assessment.specs.WaitingRuns.{AreNewTo, AreWaiting, RunLists, is_run, lists_of, waiting_without, with_runs}
use Rattle.assessment.specs.declared.waiting.WaitingRun.{WaitingRun}
use Rattle.assessment.proofs.RunChanges.RunSteps.{lists-more, no-list-yet, no-lists}

-- ---- one more run

pub with-one-more : (runs : List RunLists) (one : RunLists) (before : RankedLists)
    → with_runs (runs ++ one ∷ []) before ≡ with_lists one.run one.lists (with_runs runs before)
with-one-more [] one before = refl
with-one-more (first ∷ runs) one before = with-one-more runs one (with_lists first.run first.lists before)

new-one-more : (runs : List RunLists) (one : RunLists) (before : RankedLists) → AreNewTo before runs
    → ((on : ℕ) → with_runs runs before one.run on ≡ None) → AreNewTo before (runs ++ one ∷ [])
new-one-more [] one before new none = (none, tt)
new-one-more (first ∷ runs) one before new none = (new.0, new-one-more runs one (with_lists first.run first.lists before) new.1 none)

all-one-more : {X : Type 0} (P : X → Type 0) (xs : List X) (x : X) → All P xs → P x → All P (xs ++ x ∷ [])
all-one-more P [] x all here = All-cons P x [] here (λ k d within. absurd (omega (arith, within)))
all-one-more P (y ∷ xs) x all here =
    All-cons P y (xs ++ x ∷ []) (all 0 y (omega arith)) (all-one-more P xs x (λ k d within. all (suc k) d (omega (arith, within))) here)

pub one-more-waits : (topics : ℕ) (before : RankedLists) (runs : List RunLists) (one : RunLists) → AreWaiting topics before runs
    → ((on : ℕ) → with_runs runs before one.run on ≡ None) → length one.lists ≡ topics → AreWaiting topics before (runs ++ one ∷ [])
one-more-waits topics before runs one are none long = record {
  each_new = new-one-more runs one before are.each_new none;
  each_long = all-one-more (λ (one : RunLists). length one.lists ≡ topics) runs one are.each_long long;
}

pub none-waits : (topics : ℕ) (before : RankedLists) → AreWaiting topics before []
none-waits topics before = record { each_new = tt; each_long = λ k d within. absurd (omega (arith, within)) }

-- ---- a run is withdrawn

module _ (run : RunId) where
  -- another run's lists
  lists-apart : (one : RunLists) (before : RankedLists) → is_run run one ≡ false
      → with_lists one.run one.lists (rankings_without run before) ≡ rankings_without run (with_lists one.run one.lists before)
  lists-apart one before apart = λ i other on. at other on i
    where
      step : (other : RunId) (on : ℕ) (s t : Bool) → (s ≡ true → t ≡ true → ⊥)
          → (if s then option_map_or unless_empty (slice_get one.lists on) (if t then None else before other on) else (if t then None else before other on))
          ≡ (if t then None else (if s then option_map_or unless_empty (slice_get one.lists on) (before other on) else before other on))
      step other on true true both = absurd (both refl refl)
      step other on true false both = refl
      step other on false true both = refl
      step other on false false both = refl

      at : (other : RunId) (on : ℕ)
          → with_lists one.run one.lists (rankings_without run before) other on ≡ rankings_without run (with_lists one.run one.lists before) other on
      at other on = step other on (one.run.0 == other.0) (run.0 == other.0)
          (λ is_one is_run. let same : one.run.0 ≡ run.0 = eqb-true one.run.0 other.0 is_one ∙ sym (eqb-true run.0 other.0 is_run) in
          let here : (one.run.0 == run.0) ≡ true = eq-eqb one.run.0 run.0 same in cc (here, apart))

  -- its own lists
  lists-gone : (one : RunLists) (before : RankedLists) → is_run run one ≡ true
      → rankings_without run (with_lists one.run one.lists before) ≡ rankings_without run before
  lists-gone one before own = λ i other on. at other on i
    where
      step : (other : RunId) (on : ℕ) (s t : Bool) → s ≡ t
          → (if t then None else (if s then option_map_or unless_empty (slice_get one.lists on) (before other on) else before other on))
          ≡ (if t then None else before other on)
      step other on true true same = refl
      step other on true false same = cc same
      step other on false true same = refl
      step other on false false same = refl

      at : (other : RunId) (on : ℕ) → rankings_without run (with_lists one.run one.lists before) other on ≡ rankings_without run before other on
      at other on = step other on (one.run.0 == other.0) (run.0 == other.0) (ap (λ n. n == other.0) (eqb-true one.run.0 run.0 own))

  pub lists-without : (runs : List RunLists) (before : RankedLists)
      → with_runs (waiting_without run runs) (rankings_without run before) ≡ rankings_without run (with_runs runs before)
  lists-without [] before = refl
  lists-without (one ∷ runs) before = step (lists-without runs (with_lists one.run one.lists before)) (is_run run one) refl
    where
      step : with_runs (waiting_without run runs) (rankings_without run (with_lists one.run one.lists before))
          ≡ rankings_without run (with_runs runs (with_lists one.run one.lists before))
          → (t : Bool) → is_run run one ≡ t → with_runs (cond (not t) (one ∷ waiting_without run runs) (waiting_without run runs)) (rankings_without run before)
          ≡ rankings_without run (with_runs runs (with_lists one.run one.lists before))
      step rest true own = ap (with_runs (waiting_without run runs)) (sym (lists-gone one before own)) ∙ rest
      step rest false apart = ap (with_runs (waiting_without run runs)) (lists-apart one before apart) ∙ rest

  new-without : (runs : List RunLists) (before : RankedLists) → AreNewTo before runs → AreNewTo (rankings_without run before) (waiting_without run runs)
  new-without [] before new = tt
  new-without (one ∷ runs) before new = step (new-without runs (with_lists one.run one.lists before) new.1) (is_run run one) refl
    where
      none : (on : ℕ) (t : Bool) → (if t then None else before one.run on) ≡ None
      none on true = refl
      none on false = new.0 on

      step : AreNewTo (rankings_without run (with_lists one.run one.lists before)) (waiting_without run runs) → (t : Bool) → is_run run one ≡ t
          → AreNewTo (rankings_without run before) (cond (not t) (one ∷ waiting_without run runs) (waiting_without run runs))
      step rest true own = subst (λ (lists : RankedLists). AreNewTo lists (waiting_without run runs)) (lists-gone one before own) rest
      step rest false apart = (
        (λ on. none on (run.0 == one.run.0)),
        subst (λ (lists : RankedLists). AreNewTo lists (waiting_without run runs))
            (sym (lists-apart one before apart)) rest,
      )

all-kept : {X : Type 0} (P : X → Type 0) (q : X → Bool) (xs : List X) → All P xs → All P (filter q xs)
all-kept P q [] all = all
all-kept P q (x ∷ xs) all = step (all-kept P q xs (λ k d within. all (suc k) d (omega (arith, within)))) (q x)
  where
    step : All P (filter q xs) → (t : Bool) → All P (cond t (x ∷ filter q xs) (filter q xs))
    step rest true = All-cons P x (filter q xs) (all 0 x (omega arith)) rest
    step rest false = rest

pub without-waits : (run : RunId) (topics : ℕ) (before : RankedLists) (runs : List RunLists) → AreWaiting topics before runs
    → AreWaiting topics (rankings_without run before) (waiting_without run runs)
without-waits run topics before runs are = record {
  each_new = new-without run runs before are.each_new;
  each_long = all-kept (λ (one : RunLists). length one.lists ≡ topics) (λ one. not (is_run run one)) runs are.each_long;
}

pub kept-lists : (run : RunId) (runs : List WaitingRun)
    → map lists_of (filter (λ one. not (is_run run (lists_of one))) runs) ≡ waiting_without run (map lists_of runs)
kept-lists run [] = refl
kept-lists run (one ∷ runs) = step (is_run run (lists_of one)) (kept-lists run runs)
  where
    step : (t : Bool) → map lists_of (filter (λ one. not (is_run run (lists_of one))) runs) ≡ waiting_without run (map lists_of runs)
        → map lists_of (cond (not t) (one ∷ filter (λ one. not (is_run run (lists_of one))) runs) (filter (λ one. not (is_run run (lists_of one))) runs))
        ≡ cond (not t) (lists_of one ∷ waiting_without run (map lists_of runs)) (waiting_without run (map lists_of runs))
    step true rest = rest
    step false rest = ap (λ (ones : List RunLists). lists_of one ∷ ones) rest

-- ---- lists that are there stay

pub list-stays : (runs : List RunLists) (before : RankedLists) (run : RunId) (on : ℕ) (docs : List DocId) → AreNewTo before runs
    → before run on ≡ Some docs → with_runs runs before run on ≡ Some docs
list-stays [] before run on docs new is = is
list-stays (one ∷ runs) before run on docs new is = list-stays runs (with_lists one.run one.lists before) run on docs new.1 (step (one.run.0 == run.0) refl)
  where
    step : (t : Bool) → (one.run.0 == run.0) ≡ t
        → (if t then option_map_or unless_empty (slice_get one.lists on) (before run on) else before run on) ≡ Some docs
    step true same =
        let run_is : one.run ≡ run = ap (λ n. let r : RunId = record { 0 = n } in r) (eqb-true one.run.0 run.0 same) in
        let none : before run on ≡ None = ap (λ (r : RunId). before r on) (sym run_is) ∙ new.0 on in
        let wrong : ◌≡◌ {A = Option (List DocId)} None (Some docs) = sym none ∙ is in cc wrong
    step false same = is

-- ---- the lists of a run come on the board, one topic after another

-- The first lists of the run are on the board.
pub record IsListedTo (run : RunId) (lists : List (List DocId)) (old : TopicsView) (done left : List (List DocId)) (now : TopicsView) : Type 0 where
  pub whole : done ++ left ≡ lists
  pub facts : topics_facts now ≡ after_lists run done (topics_facts old)
  pub none : now.board.rooms ≡ []

one-list-more : (run : RunId) (done : List (List DocId)) (docs : List DocId) (all : TopicsFacts)
    → after_one_list (length done) run docs (after_lists run done all) ≡ after_lists run (done ++ docs ∷ []) all
one-list-more run done docs all = λ i. record all { lists = λ other on. lists-more run done docs all.lists other on i }

pub listing : (run : RunId) (lists : List (List DocId)) (old : TopicsView) → old.board.rooms ≡ [] → IsListedTo run lists old [] lists old
listing run lists old none = record {
  whole = refl;
  facts = λ i. record (topics_facts old) { lists = λ other on. no-lists run (topics_facts old).lists other on i };
  none = none;
}

module _ {run : RunId} {lists : List (List DocId)} {old : TopicsView} (is_new : (on : ℕ) → (topics_facts old).lists run on ≡ None) where
  as-many : {done left : List (List DocId)} {now : TopicsView} → IsListedTo run lists old done left now → length now.topics ≡ length old.topics
  as-many {now = now} at = sym (length-map now.topics facts_of) ∙ ap (λ (all : TopicsFacts). length all.topics) at.facts ∙ length-map old.topics facts_of

  pub list-within : {done left : List (List DocId)} {docs : List DocId} {now : TopicsView} → length lists ≡ length old.topics
      → IsListedTo run lists old done (docs ∷ left) now → length done < length now.topics
  list-within {done} {left} {docs} long at = omega (arith, long, as-many at, ap length at.whole, length-append done (docs ∷ left))

  pub list-new : {done left : List (List DocId)} {docs : List DocId} {now : TopicsView} → IsListedTo run lists old done (docs ∷ left) now
      → (topics_facts now).lists run (length done) ≡ None
  list-new {done} {now = now} at =
      ap (λ (all : TopicsFacts). all.lists run (length done)) at.facts ∙ no-list-yet run done (topics_facts old).lists (is_new (length done))

  pub list-more : {done left : List (List DocId)} {docs : List DocId} {now later : TopicsView} → IsListedTo run lists old done (docs ∷ left) now
      → topics_facts later ≡ after_one_list (length done) run docs (topics_facts now) → later.board.rooms ≡ []
      → IsListedTo run lists old (done ++ docs ∷ []) left later
  list-more {done} {left} {docs} at facts none = record {
    whole = append_assoc done (docs ∷ []) left ∙ at.whole;
    facts = facts ∙ ap (after_one_list (length done) run docs) at.facts ∙ one-list-more run done docs (topics_facts old);
    none = none;
  }

  pub list-ended : {done : List (List DocId)} {now : TopicsView} → IsListedTo run lists old done [] now
      → topics_facts now ≡ after_lists run lists (topics_facts old)
  list-ended {done} at = at.facts ∙ ap (λ (ls : List (List DocId)). after_lists run ls (topics_facts old)) (sym (append-nil done) ∙ at.whole)

-- ---- the runs come on the board, one after another

-- The first runs' lists are on the board, and the others may come.
pub record AreListedTo (runs : List RunLists) (old : TopicsView) (done left : List RunLists) (now : TopicsView) : Type 0 where
  pub whole : done ++ left ≡ runs
  pub facts : topics_facts now ≡ with_waiting_lists done (topics_facts old)
  pub come : AreWaiting (length now.topics) (topics_facts now).lists left
  pub none : now.board.rooms ≡ []

pub runs-listing : (runs : List RunLists) (old : TopicsView) → AreWaiting (length old.topics) (topics_facts old).lists runs
    → old.board.rooms ≡ [] → AreListedTo runs old [] runs old
runs-listing runs old come none = record { whole = refl; facts = refl; come = come; none = none }

pub runs-more : {runs : List RunLists} {old now later : TopicsView} {done left : List RunLists} {one : RunLists} → AreListedTo runs old done (one ∷ left) now
    → topics_facts later ≡ after_lists one.run one.lists (topics_facts now) → later.board.rooms ≡ [] → AreListedTo runs old (done ++ one ∷ []) left later
runs-more {runs} {old} {now} {later} {done} {left} {one} at facts none =
    let long : length later.topics ≡ length now.topics =
    sym (length-map later.topics facts_of) ∙ ap (λ (all : TopicsFacts). length all.topics) facts ∙ length-map now.topics facts_of in
    record {
      whole = append_assoc done (one ∷ []) left ∙ at.whole;
      facts = facts ∙ ap (after_lists one.run one.lists) at.facts
          ∙ ap (λ (lists : RankedLists). let all : TopicsFacts = record (topics_facts old) { lists = lists } in all)
          (sym (with-one-more done one (topics_facts old).lists));
      come = record {
        each_new = subst (λ (all : TopicsFacts). AreNewTo all.lists left) (sym facts) at.come.each_new.1;
        each_long = subst (λ n. All (λ (one : RunLists). length one.lists ≡ n) left) (sym long)
            (λ k d within. at.come.each_long (suc k) d (omega (arith, within)));
      };
      none = none;
    }

pub runs-ended : {runs : List RunLists} {old now : TopicsView} {done : List RunLists} → AreListedTo runs old done [] now
    → topics_facts now ≡ with_waiting_lists runs (topics_facts old)
runs-ended {runs} {old} {now} {done} at =
    at.facts ∙ ap (λ (ones : List RunLists). with_waiting_lists ones (topics_facts old)) (sym (append-nil done) ∙ at.whole)
