-- What an assessment knows, and what each change makes of it.
use Rattle.std.specs.Prelude.{◌≡◌, ◌-◌, ◌<◌, ◌≤◌, ◌^◌, ℕ, Bool, true, false, List, [], None, Option, Some, length, slice_get}
use Rattle.decimal_rank.specs.declared.naming.DocId.{DocId}
use Rattle.std.specs.Option.{IsSomeAnd}
use Rattle.lease_desk.specs.DeskView.{DeskView}
use Rattle.lease_desk.specs.Leases.{desk_lease, with_end, with_grant}
use Rattle.lease_desk.specs.declared.leases.Lease.{Lease}
use Rattle.lease_desk.specs.declared.leases.LeaseEnd.TheVariants.{Graded, Released}
use Rattle.assessment.specs.RunLists.{HasRooms, HavePlaces}
use Rattle.assessment.specs.TopicFacts.{AwaitsJudgement, MayLabel, MayRule}
use Rattle.assessment.specs.TopicsFacts.{IsEntered, IsNewRun, TopicsFacts, TopicsView, after_label, after_ruling, after_run, after_withdrawal, topics_facts}
use Rattle.assessment.specs.WaitingRuns.{AreWaiting, IsWaitingAs, RunLists, WaitingView, with_runs}
use Rattle.assessment.specs.declared.change.Change.{Change}
use Rattle.assessment.specs.declared.change.Change.TheVariants as change

-- an assessment: what is known of the topics and the runs' lists, the leases in the order of their numbers, and whether the board has the lists
pub record Facts : Type 0 where
  pub topics : TopicsFacts
  pub leases : List Lease
  pub on_board : Bool

-- an assessment as contracts see it, with the change for which there is room
pub record AssessmentView : Type 0 where
  pub topics : TopicsView
  pub leases : List Lease
  pub waiting : WaitingView
  pub pending : Option Change

-- no change is pending, and nothing is left reserved
pub record IsIdle (view : AssessmentView) : Type 0 where
  pub pending : view.pending ≡ None
  pub unreserved : view.topics.board.rooms ≡ []

-- the lists are those of the board and those that wait
abbrev pub with_waiting_lists : List RunLists → TopicsFacts → TopicsFacts
with_waiting_lists runs all = record all { lists = with_runs runs all.lists }

abbrev pub facts_in : TopicsView → List Lease → WaitingView → Facts
facts_in topics leases waiting = record { topics = with_waiting_lists waiting.runs (topics_facts topics); leases = leases; on_board = waiting.on_board }

-- the runs that wait may come on the board
abbrev pub MayCome : TopicsView → WaitingView → Type 0
MayCome topics waiting = AreWaiting (length topics.topics) (topics_facts topics).lists waiting.runs

-- this is known, and nothing is left reserved on the board
pub record IsLeftAtRest (known : Facts) (topics : TopicsView) (leases : List Lease) (waiting : WaitingView) : Type 0 where
  pub facts : facts_in topics leases waiting ≡ known
  pub unreserved : topics.board.rooms ≡ []
  pub may_come : MayCome topics waiting

-- the topics, the lists, the leases and the runs that wait stay
pub record AreUnchanged (topics topics_after : TopicsView) (leases leases_after : List Lease) (waiting waiting_after : WaitingView) : Type 0 where
  pub told_is : topics_facts topics_after ≡ topics_facts topics
  pub leases_are : leases_after ≡ leases
  pub waiting_is : IsWaitingAs waiting.runs waiting waiting_after

-- what an assessment knows
abbrev pub facts : AssessmentView → Facts
facts view = facts_in view.topics view.leases view.waiting

-- a lease that has no end
abbrev pub IsUnended : ℕ → List Lease → Type 0
IsUnended number leases = IsSomeAnd (desk_lease leases number) (λ lease. lease.end ≡ None)

-- what a change makes of what is known
abbrev pub after_change : Change → Facts → Facts
after_change change.Nothing facts = facts
after_change (change.Topics given) facts = record facts { topics = topics_facts given }
after_change (change.Run run lists) facts = record facts { topics = after_run run lists.items facts.topics }
after_change (change.Withdraw run) facts = record facts { topics = after_withdrawal run facts.topics }
after_change (change.Lease grant) facts = record facts { leases = with_grant facts.leases grant.assessor grant.topic grant.doc grant.until }
after_change (change.Grade number label) facts = record facts { topics = after_label label facts.topics; leases = with_end facts.leases number Graded }
after_change (change.Release number) facts = record facts { leases = with_end facts.leases number Released }
after_change (change.Amend label) facts = record facts { topics = after_label label facts.topics }
after_change (change.Rule ruling) facts = record facts { topics = after_ruling ruling facts.topics }

-- a change that may be made of what is known
abbrev pub Fits : Change → Facts → Type 0
Fits change.Nothing facts = Unit {0}
Fits (change.Topics given) facts = given.board.rooms ≡ []
Fits (change.Run run lists) facts = IsNewRun run facts.topics × (length lists.items ≡ length facts.topics.topics)
Fits (change.Withdraw run) facts = IsEntered run facts.topics
Fits (change.Lease grant) facts = length facts.leases < 2 ^ 32 - 1
Fits (change.Grade number label) facts = IsUnended number facts.leases × IsSomeAnd (slice_get facts.topics.topics label.topic) (MayLabel label.doc)
Fits (change.Release number) facts = IsUnended number facts.leases
Fits (change.Amend label) facts = IsSomeAnd (slice_get facts.topics.topics label.topic) (MayLabel label.doc)
Fits (change.Rule ruling) facts = IsSomeAnd (slice_get facts.topics.topics ruling.topic) (MayRule ruling.doc)

-- there is room for a run on the topics, and on the board for its lists or among those that wait
abbrev pub HasRunRoom : Bool → List (List DocId) → TopicsView → WaitingView → Type 0
HasRunRoom true lists all waiting = HasRooms lists all.topics all.board
HasRunRoom false lists all waiting = HavePlaces lists all.topics × (1 ≤ waiting.spare) × (all.board.rooms ≡ [])

-- there is room for a change, and on the board for no other lists than its own
abbrev pub ChangeHasRoom : Change → TopicsView → DeskView → WaitingView → Type 0
ChangeHasRoom change.Nothing all desk waiting = all.board.rooms ≡ []
ChangeHasRoom (change.Topics given) all desk waiting = all.board.rooms ≡ []
ChangeHasRoom (change.Run run lists) all desk waiting = HasRunRoom waiting.on_board lists.items all waiting
ChangeHasRoom (change.Withdraw run) all desk waiting = all.board.rooms ≡ []
ChangeHasRoom (change.Lease grant) all desk waiting = (1 ≤ desk.spare) × (all.board.rooms ≡ [])
ChangeHasRoom (change.Grade number label) all desk waiting = IsSomeAnd (slice_get all.topics label.topic) (AwaitsJudgement label.doc) × (all.board.rooms ≡ [])
ChangeHasRoom (change.Release number) all desk waiting = all.board.rooms ≡ []
ChangeHasRoom (change.Amend label) all desk waiting = IsSomeAnd (slice_get all.topics label.topic) (AwaitsJudgement label.doc) × (all.board.rooms ≡ [])
ChangeHasRoom (change.Rule ruling) all desk waiting = IsSomeAnd (slice_get all.topics ruling.topic) (AwaitsJudgement ruling.doc) × (all.board.rooms ≡ [])

-- a change that may be made, and for which there is room
pub record IsChangeReady (change : Change) (all : TopicsView) (desk : DeskView) (waiting : WaitingView) : Type 0 where
  pub fits : Fits change (facts_in all desk.leases waiting)
  pub room : ChangeHasRoom change all desk waiting
  pub may_come : MayCome all waiting

-- there is room for the change that is pending, and on the board for no lists where none is
abbrev pub IsChangeReserved : Option Change → TopicsView → DeskView → WaitingView → Type 0
IsChangeReserved None all desk waiting = all.board.rooms ≡ []
IsChangeReserved (Some change) all desk waiting = IsChangeReady change all desk waiting

pub record IsKept (pending : Option Change) (all : TopicsView) (desk : DeskView) (waiting : WaitingView) : Type 0 where
  pub reserved : IsChangeReserved pending all desk waiting
  pub may_come : MayCome all waiting
