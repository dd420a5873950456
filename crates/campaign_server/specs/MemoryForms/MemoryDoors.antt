-- A door in memory.
use Rattle.std.specs.Prelude.{ℕ, ◌+◌, List, Option, Some, None, drop}
use Rattle.decimal_rank.specs.Outputs.FailurePlans.{PlanState, after_call, count_more}
use Rattle.campaign_server.specs.Doors.{DoorState, EndedLink}
use Rattle.campaign_server.specs.Links.{LinkState}

-- what it tells, the calls that are to fail, and how many failed
pub record MemoryDoorState : Type 0 where
  pub port : Option ℕ
  pub left : List LinkState
  pub accepted : ℕ
  pub served : List EndedLink
  pub plan : PlanState
  pub faults : ℕ

-- it tells all but its plan
abbrev pub told_by : MemoryDoorState → DoorState
told_by door = record {
  told = Some (record { port = door.port; left = door.left; accepted = door.accepted; served = door.served });
  faults = door.faults;
}

-- it after a call that failed
abbrev pub after_fault : MemoryDoorState → MemoryDoorState
after_fault door = record door { plan = after_call door.plan; faults = count_more door.faults }

abbrev pub after_open : MemoryDoorState → ℕ → MemoryDoorState
after_open door port = record door { port = Some port; plan = after_call door.plan }

-- it after it gave its first link, or none
abbrev pub after_accept : MemoryDoorState → Option LinkState → MemoryDoorState
after_accept door (Some link) = record door { left = drop 1 door.left; accepted = door.accepted + 1; plan = after_call door.plan }
after_accept door None = record door { plan = after_call door.plan }

-- the records of links that are their own
module _ {I E : Type 0} (seen : I → LinkState) where
  abbrev pub record_behind : I × E → Option LinkState × E
  record_behind ended = (Some (seen ended.0), ended.1)
