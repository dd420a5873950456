-- What is written to memory, and what a write may do to it.
use Rattle.std.specs.Prelude.{ℕ, List, [], ◌++◌, Result, Ok, Err, if◌then◌else◌}
use Rattle.decimal_rank.specs.Outputs.FailurePlans.{PlanState, count_more, after_call, fails_next}
use Rattle.decimal_rank.specs.declared.failures.Failed.{Failed}

-- the bytes, the writes that are to fail, how many failed, and how many of these wanted memory
pub record Written : Type 0 where
  pub written : List ℕ
  pub plan : PlanState
  pub faults : ℕ
  pub wants : ℕ

-- before any write, of which these are to fail
abbrev pub nothing_written : List ℕ → Written
nothing_written fails = record { written = []; plan = record { fails = fails; calls = 0 }; faults = 0; wants = 0 }

-- after a write of the piece with this answer
abbrev pub after_write : Written → List ℕ → Result ℕ Failed → Written
after_write all piece (Ok count) = record all { written = all.written ++ piece; plan = after_call all.plan }
after_write all piece (Err failed) = record all {
  plan = after_call all.plan;
  faults = count_more all.faults;
  wants = if fails_next all.plan then all.wants else count_more all.wants;
}
