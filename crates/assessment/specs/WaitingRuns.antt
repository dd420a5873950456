-- Runs whose lists wait before they come on the board.
use Rattle.std.specs.Prelude.{◌≡◌, ◌==◌, ℕ, Bool, List, [], ◌∷◌, All, None, filter, length, not}
use Rattle.decimal_rank.specs.declared.naming.DocId.{DocId}
use Rattle.depth_pool.specs.declared.runs.RunId.{RunId}
use Rattle.assessment.specs.RunLists.{RankedLists, with_lists}
use Rattle.assessment.specs.declared.waiting.WaitingRun.{WaitingRun}

-- a run and its list on each topic
pub record RunLists : Type 0 where
  pub run : RunId
  pub lists : List (List DocId)

-- the runs whose lists wait, whether the lists of new runs are put on the board at once, and room for more runs
pub record WaitingView : Type 0 where
  pub runs : List RunLists
  pub on_board : Bool
  pub spare : ℕ

abbrev pub lists_of : WaitingRun → RunLists
lists_of one = record { run = one.run; lists = one.lists.items }

-- whether it is this run's
abbrev pub is_run : RunId → RunLists → Bool
is_run run one = one.run.0 == run.0

-- but for a run's
abbrev pub waiting_without : RunId → List RunLists → List RunLists
waiting_without run runs = filter (λ one. not (is_run run one)) runs

-- these runs wait now, where others did
pub record IsWaitingAs (runs : List RunLists) (old new : WaitingView) : Type 0 where
  pub runs_are : new.runs ≡ runs
  pub same_way : new.on_board ≡ old.on_board

-- the ranked lists with those of runs, one after another
abbrev pub with_runs : List RunLists → RankedLists → RankedLists
with_runs [] before = before
with_runs (one ∷ runs) before = with_runs runs (with_lists one.run one.lists before)

-- each run has no list among those before it
abbrev pub AreNewTo : RankedLists → List RunLists → Type 0
AreNewTo before [] = Unit {0}
AreNewTo before (one ∷ runs) = ((on : ℕ) → before one.run on ≡ None) × AreNewTo (with_lists one.run one.lists before) runs

-- runs that may come on the board, where there are so many topics
pub record AreWaiting (topics : ℕ) (before : RankedLists) (runs : List RunLists) : Type 0 where
  pub each_new : AreNewTo before runs
  pub each_long : All (λ one. length one.lists ≡ topics) runs
