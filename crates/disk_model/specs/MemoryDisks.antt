-- A disk in memory: the calls that did their work, and those that are to fail.
use Rattle.std.specs.Prelude.{ℕ, List, [], ◌∷◌, ◌++◌, Option, None, Some, Result, Ok, Err, Vec, if◌then◌else◌}
use Rattle.std.specs.declared.alloc.Global.{Global}
use Rattle.decimal_rank.specs.Outputs.FailurePlans.{PlanState, after_call, count_more, fails_next}
use Rattle.decimal_rank.specs.declared.failures.Failed.{Failed}
use Rattle.disk_model.specs.declared.disk_calls.DiskCall.{DiskCall}
use Rattle.disk_model.specs.Calls.{content_after, seen_after}
use Rattle.disk_model.specs.Disks.{DiskState}

-- the content before the first call, and the calls that did their work
pub record HeldContent : Type 0 where
  pub start : List ℕ
  pub calls : List DiskCall

-- the content at the start: it is kept from the first call that changes something on
abbrev pub begun_with : Option (Vec ℕ Global) → List ℕ → List ℕ
begun_with None content = content
begun_with (Some kept) content = kept.items

abbrev pub content_of : HeldContent → List ℕ
content_of held = content_after held.calls held.start

-- with one call more
abbrev pub with_call : HeldContent → DiskCall → HeldContent
with_call held call = record held { calls = held.calls ++ call ∷ [] }

-- what it holds, the calls that are to fail, how many failed, and how many of these wanted memory
pub record MemoryDiskState : Type 0 where
  pub held : HeldContent
  pub plan : PlanState
  pub faults : ℕ
  pub wants : ℕ

-- with this content, before any call, of which these are to fail
abbrev pub before_calls : List ℕ → List ℕ → MemoryDiskState
before_calls content fails = record {
  held = record { start = content; calls = [] };
  plan = record { fails = fails; calls = 0 };
  faults = 0;
  wants = 0;
}

-- it tells all but its plan
abbrev pub told_by : MemoryDiskState → DiskState
told_by disk = seen_after disk.held.calls disk.held.start disk.faults

-- after a call that did its work
abbrev pub after_work : MemoryDiskState → DiskCall → MemoryDiskState
after_work disk call = record disk { held = with_call disk.held call; plan = after_call disk.plan }

-- after a call with this answer: one that fails did nothing, and where that wasn't planned it wanted memory
abbrev pub after_disk_call : {T : Type 0} → MemoryDiskState → DiskCall → Result T Failed → MemoryDiskState
after_disk_call disk call (Ok value) = after_work disk call
after_disk_call disk call (Err failed) = record disk {
  plan = after_call disk.plan;
  faults = count_more disk.faults;
  wants = if fails_next disk.plan then disk.wants else count_more disk.wants;
}

-- all that the step makes of an old image is a new one
abbrev pub LeavesAll : (List ℕ → List ℕ → Type 0) → (List ℕ → Type 0) → (List ℕ → Type 0) → Type 0
LeavesAll step old new = (earlier image : List ℕ) → old earlier → step earlier image → new image
