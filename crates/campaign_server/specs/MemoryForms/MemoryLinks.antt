-- A link in memory.
use Rattle.std.specs.Prelude.{ℕ, Bool, List, ◌++◌, Some, Result, Ok, Err, take, drop, nat_le}
use Rattle.std.specs.List.{list_all}
use Rattle.rulebook.specs.declared.limits.TheConstants.{MAX_MOMENT}
use Rattle.decimal_rank.specs.declared.failures.Failed.{Failed}
use Rattle.decimal_rank.specs.Outputs.FailurePlans.{PlanState, count_more, after_call}
use Rattle.campaign_server.specs.Links.{LinkState}
use Rattle.campaign_server.specs.MemoryForms.MemoryWritten.{Written, after_write as written_after}

-- the bytes taken, left and written, how many the last read gave, the moments and how many were asked for, the reads and writes that are to fail, the two
-- counts of faults, and how many writes failed for want of memory
pub record MemoryLinkState : Type 0 where
  pub taken : List ℕ
  pub left : List ℕ
  pub last : ℕ
  pub written : List ℕ
  pub moments : List ℕ
  pub asked : ℕ
  pub reads : PlanState
  pub writes : PlanState
  pub read_faults : ℕ
  pub write_faults : ℕ
  pub wants : ℕ

-- it tells all but its plans
abbrev pub told_by : MemoryLinkState → LinkState
told_by link = record {
  reading = record { taken = Some link.taken; left = Some link.left; last = Some link.last; faults = link.read_faults };
  writing = record { written = Some link.written; faults = link.write_faults };
  clock = record { moments = Some link.moments; asked = link.asked };
}

-- no moment is later than the latest
abbrev pub are_moments : List ℕ → Bool
are_moments moments = list_all (λ moment. nat_le moment MAX_MOMENT) moments

-- a link in memory after a read with this answer
abbrev pub after_read : MemoryLinkState → Result ℕ Failed → MemoryLinkState
after_read link (Ok count) =
    record link { taken = link.taken ++ take count link.left; left = drop count link.left; last = count; reads = after_call link.reads }
after_read link (Err failed) = record link { last = 0; reads = after_call link.reads; read_faults = count_more link.read_faults }

-- what was written to it
abbrev pub written_of : MemoryLinkState → Written
written_of link = record { written = link.written; plan = link.writes; faults = link.write_faults; wants = link.wants }

-- and after a write of the piece with this answer
abbrev pub after_write : MemoryLinkState → List ℕ → Result ℕ Failed → MemoryLinkState
after_write link piece result =
    let all = written_after (written_of link) piece result in
    record link { written = all.written; writes = all.plan; write_faults = all.faults; wants = all.wants }
