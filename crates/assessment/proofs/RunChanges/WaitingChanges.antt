-- What a change makes of what is known, with the runs that wait.
use Rattle.std.proofs.Common.{◌≡◌, ◌≤◌, ◌∙◌, ◌++◌, ◌∷◌, ℕ, zero, suc, List, [], Option, None, Some, length, map, refl, sym, ap, subst, arith}
use Rattle.std.specs.Prelude.{All, sum_by}
use Rattle.std.proofs.lemmas.List.{length-map}
use Rattle.std.proofs.lemmas.List.Sums.{sum_by-cons}
use Rattle.decimal_rank.specs.declared.naming.DocId.{DocId}
use Rattle.depth_pool.specs.declared.runs.RunId.{RunId}
use Rattle.lease_desk.specs.declared.leases.Lease.{Lease}
use Rattle.score_index.specs.Scores.{list_steps}
use Rattle.assessment.specs.Costs.{HaveLists, change_steps, grade_steps}
use Rattle.assessment.specs.Changes.{Facts, IsLeftAtRest, MayCome, facts_in, with_waiting_lists}
use Rattle.assessment.specs.RunLists.{RankedLists}
use Rattle.assessment.specs.TopicFacts.{TopicFacts, facts_of, without_list}
use Rattle.assessment.specs.TopicsFacts.{AreAtRest, Becomes, IsNewRun, TopicsFacts, TopicsView, after_entry, after_judgement, after_run, after_withdrawal, at_place, topics_facts}
use Rattle.assessment.specs.WaitingRuns.{AreNewTo, IsWaitingAs, RunLists, WaitingView, waiting_without}
use Rattle.assessment.specs.declared.change.Change.{Change}
use Rattle.assessment.specs.declared.change.Change.TheVariants as change
use Rattle.assessment.specs.declared.change.Judgement.{Judgement}
use Rattle.assessment.specs.declared.change.Judgement.TheVariants as mark
use Rattle.assessment.proofs.RunChanges.RunSteps.{each-long}
use Rattle.assessment.proofs.RunChanges.WaitingSteps.{list-stays, lists-without, none-waits, one-more-waits, with-one-more, without-waits}

-- runs that may come, where the lists and the number of topics stay
still-come : (old new : TopicsView) (runs : WaitingView) → length new.topics ≡ length old.topics
    → (topics_facts new).lists ≡ (topics_facts old).lists → MayCome old runs → MayCome new runs
still-come old new waiting long same are = record {
  each_new = subst (λ (lists : RankedLists). AreNewTo lists waiting.runs) (sym same) are.each_new;
  each_long = subst (λ n. All (λ (one : RunLists). length one.lists ≡ n) waiting.runs) (sym long) are.each_long;
}

-- how many topics there are, by what is told of them
many-by : (topics : TopicsView) (all : TopicsFacts) → topics_facts topics ≡ all → length topics.topics ≡ length all.topics
many-by topics all is = sym (length-map topics.topics facts_of) ∙ ap (λ (all : TopicsFacts). length all.topics) is

at_place-long : (place : ℕ) (step : TopicFacts → TopicFacts) (topics : List TopicFacts) → length (at_place place step topics) ≡ length topics
at_place-long place step [] = refl
at_place-long zero step (topic ∷ topics) = refl
at_place-long (suc place) step (topic ∷ topics) = ap suc (at_place-long place step topics)

marked-long : (m : Judgement) (all : TopicsFacts) → length (after_judgement m all).topics ≡ length all.topics
marked-long (mark.Label label) all = at_place-long _ _ all.topics
marked-long (mark.Ruling ruling) all = at_place-long _ _ all.topics

marked-lists : (m : Judgement) (all : TopicsFacts) → (after_judgement m all).lists ≡ all.lists
marked-lists (mark.Label label) all = refl
marked-lists (mark.Ruling ruling) all = refl

marked-listed : (m : Judgement) (runs : List RunLists) (all : TopicsFacts)
    → with_waiting_lists runs (after_judgement m all) ≡ after_judgement m (with_waiting_lists runs all)
marked-listed (mark.Label label) runs all = refl
marked-listed (mark.Ruling ruling) runs all = refl

-- a mark
pub marked-left : (m : Judgement) (old new : TopicsView) (leases : List Lease) (waiting : WaitingView)
    → Becomes (after_judgement m (topics_facts old)) old new → old.board.rooms ≡ [] → MayCome old waiting
    → IsLeftAtRest (record { topics = after_judgement m (with_waiting_lists waiting.runs (topics_facts old)); leases = leases; on_board = waiting.on_board })
    new leases waiting
marked-left m old new leases waiting becomes none come = record {
  facts = ap (λ (all : TopicsFacts). let known : Facts = record { topics = all; leases = leases; on_board = waiting.on_board } in known)
      (ap (with_waiting_lists waiting.runs) becomes.facts ∙ marked-listed m waiting.runs (topics_facts old));
  unreserved = becomes.rooms ∙ none;
  may_come = still-come old new waiting
      (many-by new (after_judgement m (topics_facts old)) becomes.facts ∙ marked-long m (topics_facts old) ∙ length-map old.topics facts_of)
      (ap (λ (all : TopicsFacts). all.lists) becomes.facts ∙ marked-lists m (topics_facts old)) come;
}

-- leases alone
pub quiet-left : (topics : TopicsView) (leases after : List Lease) (waiting : WaitingView) → after ≡ leases → topics.board.rooms ≡ [] → MayCome topics waiting
    → IsLeftAtRest
    (record { topics = with_waiting_lists waiting.runs (topics_facts topics); leases = leases; on_board = waiting.on_board }) topics after waiting
quiet-left topics leases after waiting same none come = record {
  facts = ap (λ (leases : List Lease). facts_in topics leases waiting) same;
  unreserved = none;
  may_come = come;
}

-- the topics of a campaign
pub topics-left : (given : TopicsView) (leases : List Lease) (old new : WaitingView) → given.board.rooms ≡ [] → IsWaitingAs [] old new
    → IsLeftAtRest (record { topics = topics_facts given; leases = leases; on_board = old.on_board }) given leases new
topics-left given leases old new none waiting = record {
  facts = ap (λ (runs : List RunLists). let known : Facts =
      record { topics = with_waiting_lists runs (topics_facts given); leases = leases; on_board = new.on_board } in known) waiting.runs_are
      ∙ ap (λ t. let known : Facts = record { topics = topics_facts given; leases = leases; on_board = t } in known) waiting.same_way;
  unreserved = none;
  may_come = subst (λ (runs : List RunLists). MayCome given (record new { runs = runs })) (sym waiting.runs_are) (none-waits _ _);
}

-- a withdrawal
pub withdrawn-left : (run : RunId) (old new : TopicsView) (leases : List Lease) (waiting after : WaitingView)
    → Becomes (after_withdrawal run (topics_facts old)) old new → IsWaitingAs (waiting_without run waiting.runs) waiting after
    → old.board.rooms ≡ [] → MayCome old waiting
    → IsLeftAtRest (record { topics = after_withdrawal run (with_waiting_lists waiting.runs (topics_facts old)); leases = leases; on_board = waiting.on_board })
    new leases after
withdrawn-left run old new leases waiting after becomes gone none come =
    let topics : with_waiting_lists after.runs (topics_facts new) ≡ after_withdrawal run (with_waiting_lists waiting.runs (topics_facts old)) =
    ap (λ (runs : List RunLists). with_waiting_lists runs (topics_facts new)) gone.runs_are
    ∙ ap (with_waiting_lists (waiting_without run waiting.runs)) becomes.facts
    ∙ ap (λ (lists : RankedLists). let all : TopicsFacts = record (after_withdrawal run (topics_facts old)) { lists = lists } in all)
    (lists-without run waiting.runs (topics_facts old).lists) in
    let long : length new.topics ≡ length old.topics =
    many-by new (after_withdrawal run (topics_facts old)) becomes.facts
    ∙ length-map (map facts_of old.topics) (without_list run) ∙ length-map old.topics facts_of in
    let now : MayCome new (record waiting { runs = waiting_without run waiting.runs }) =
    let come = without-waits run (length old.topics) (topics_facts old).lists waiting.runs come in record {
      each_new = subst (λ (lists : RankedLists). AreNewTo lists (waiting_without run waiting.runs))
          (sym (ap (λ (all : TopicsFacts). all.lists) becomes.facts)) come.each_new;
      each_long = subst (λ n. All (λ (one : RunLists). length one.lists ≡ n) (waiting_without run waiting.runs)) (sym long) come.each_long;
    } in
    record {
      facts = ap (λ (all : TopicsFacts). let known : Facts = record { topics = all; leases = leases; on_board = after.on_board } in known) topics
          ∙ ap (λ t. let known : Facts =
          record { topics = after_withdrawal run (with_waiting_lists waiting.runs (topics_facts old)); leases = leases; on_board = t } in known) gone.same_way;
      unreserved = becomes.rooms ∙ none;
      may_come = subst (λ (runs : List RunLists). MayCome new (record waiting { runs = runs })) (sym gone.runs_are) now;
    }

-- a run whose lists come on the board: none waits
pub entered-listed : (run : RunId) (lists : List (List DocId)) (old new : TopicsView) (waiting : WaitingView)
    → waiting.runs ≡ [] → AreAtRest (after_run run lists (topics_facts old)) new
    → with_waiting_lists waiting.runs (topics_facts new) ≡ after_run run lists (with_waiting_lists waiting.runs (topics_facts old))
entered-listed run lists old new waiting none entered =
    subst (λ (runs : List RunLists). with_waiting_lists runs (topics_facts new) ≡ after_run run lists (with_waiting_lists runs (topics_facts old)))
    (sym none) entered.facts

pub none-come : (topics : TopicsView) (waiting : WaitingView) → waiting.runs ≡ [] → MayCome topics waiting
none-come topics waiting none = subst (λ (runs : List RunLists). MayCome topics (record waiting { runs = runs })) (sym none) (none-waits _ _)

-- it is new on the board too
pub new-there : (run : RunId) (all : TopicsFacts) (runs : List RunLists) → runs ≡ [] → IsNewRun run (with_waiting_lists runs all) → IsNewRun run all
new-there run all runs none is_new = subst (λ (runs : List RunLists). IsNewRun run (with_waiting_lists runs all)) none is_new

-- a run whose lists wait
module _ (run : RunId) (lists : List (List DocId)) (old new : TopicsView) (waiting after : WaitingView)
    (becomes : Becomes (after_entry run lists (topics_facts old)) old new)
    (joined : IsWaitingAs (waiting.runs ++ record { run = run; lists = lists } ∷ []) waiting after) where
  abbrev one : RunLists
  one = record { run = run; lists = lists }

  pub waits-listed : with_waiting_lists after.runs (topics_facts new) ≡ after_run run lists (with_waiting_lists waiting.runs (topics_facts old))
  waits-listed =
      ap (λ (runs : List RunLists). with_waiting_lists runs (topics_facts new)) joined.runs_are
      ∙ ap (with_waiting_lists (waiting.runs ++ one ∷ [])) becomes.facts
      ∙ ap (λ (lists_now : RankedLists). let all : TopicsFacts = record (after_entry run lists (topics_facts old)) { lists = lists_now } in all)
      (with-one-more waiting.runs one (topics_facts old).lists)

  pub waits-come : MayCome old waiting → IsNewRun run (with_waiting_lists waiting.runs (topics_facts old))
      → length lists ≡ length old.topics → MayCome new after
  waits-come come is_new long =
      let many : length new.topics ≡ length old.topics =
      many-by new (after_entry run lists (topics_facts old)) becomes.facts ∙ each-long run lists (map facts_of old.topics) ∙ length-map old.topics facts_of in
      let now = one-more-waits (length old.topics) (topics_facts old).lists waiting.runs one come is_new.on_board long in
      subst (λ (runs : List RunLists). MayCome new (record after { runs = runs })) (sym joined.runs_are)
      (record {
        each_new = subst (λ (lists : RankedLists). AreNewTo lists (waiting.runs ++ one ∷ []))
            (sym (ap (λ (all : TopicsFacts). all.lists) becomes.facts)) now.each_new;
        each_long = subst (λ n. All (λ (one : RunLists). length one.lists ≡ n) (waiting.runs ++ one ∷ [])) (sym many) now.each_long;
      })

-- ---- the steps of a change, where the lists that wait count too

some-more : (lists : Option (List DocId)) (later : Option (List DocId)) → ((docs : List DocId) → lists ≡ Some docs → later ≡ Some docs)
    → list_steps lists ≤ list_steps later
some-more None later same = omega arith
some-more (Some docs) later same = let is = ap list_steps (same docs refl) in omega (arith, is)

sum-more : (f g : RunId → ℕ) (runs : List RunId) → ((run : RunId) → f run ≤ g run) → sum_by f runs ≤ sum_by g runs
sum-more f g [] more = omega arith
sum-more f g (run ∷ runs) more = omega (arith, sum_by-cons f run runs, sum_by-cons g run runs, more run, sum-more f g runs more)

module _ (waiting : List RunLists) (all : TopicsFacts) (new : AreNewTo all.lists waiting) where
  there : (run : RunId) (on : ℕ) (docs : List DocId) → all.lists run on ≡ Some docs → (with_waiting_lists waiting all).lists run on ≡ Some docs
  there run on docs is = list-stays waiting all.lists run on docs new is

  pub have-all : (runs : List RunId) → HaveLists runs (with_waiting_lists waiting all) → HaveLists runs all
  have-all runs have run on docs is = have run on docs (there run on docs is)

  grade-more : (runs : List RunId) (number : ℕ) → grade_steps runs number all ≤ grade_steps runs number (with_waiting_lists waiting all)
  grade-more runs number =
      let sums = sum-more (λ run. list_steps (all.lists run number)) (λ run. list_steps ((with_waiting_lists waiting all).lists run number)) runs
      (λ run. some-more (all.lists run number) ((with_waiting_lists waiting all).lists run number) (λ docs is. there run number docs is)) in
      omega (arith, sums)

  pub change-more : (runs : List RunId) (c : Change) → change_steps runs c all ≤ change_steps runs c (with_waiting_lists waiting all)
  change-more runs change.Nothing = omega arith
  change-more runs (change.Topics given) = omega arith
  change-more runs (change.Run run lists) = omega arith
  change-more runs (change.Withdraw run) = omega arith
  change-more runs (change.Lease grant) = omega arith
  change-more runs (change.Grade number label) = grade-more runs label.topic
  change-more runs (change.Release number) = omega arith
  change-more runs (change.Amend label) = grade-more runs label.topic
  change-more runs (change.Rule ruling) = grade-more runs ruling.topic
