-- What a call does to what a keeper in memory tells.
use Rattle.std.proofs.Common.{◌≡◌, ◌≤◌, inl, ℕ, List, Some, Bool, true, false, refl, sym, subst, arith}
use Rattle.std.specs.Prelude.{Result, Ok, Err, if◌then◌else◌}
use Rattle.decimal_rank.specs.Causes.{Rose}
use Rattle.decimal_rank.specs.Outputs.FailurePlans.{count_more, fails_next}
use Rattle.release_archive.specs.declared.kept.Kept.{Kept}
use Rattle.release_archive.specs.declared.ends.KeepEnd.{KeepEnd}
use Rattle.release_archive.specs.declared.ends.KeepEnd.TheVariants.{Failed, Memory}
use Rattle.release_archive.specs.Keepers.{LeavesKept, MemoryKeeperState, after_keep, with_added}

pub later-call : (keeper : MemoryKeeperState) (releases : List Kept) → keeper.faults ≤ (after_keep keeper releases).faults
later-call keeper releases = step (fails_next keeper.plan)
  where
    step : (t : Bool) → keeper.faults ≤ (if t then count_more keeper.faults else keeper.faults)
    step true = grind arith
    step false = omega arith

pub failed-call : (keeper : MemoryKeeperState) (releases : List Kept) → fails_next keeper.plan ≡ true → Rose keeper.faults (after_keep keeper releases).faults
failed-call keeper releases fails =
    subst (λ t. Rose keeper.faults (if t then count_more keeper.faults else keeper.faults)) (sym fails) (rose keeper.faults)
  where
    rose : (n : ℕ) → Rose n (count_more n)
    rose n = grind arith

pub leaves-added : (releases : List Kept) (kept : Kept) (result : Result (Unit {0}) KeepEnd)
    → LeavesKept (Some releases) kept result (Some (with_added releases kept result))
leaves-added releases kept (Ok done) = refl
leaves-added releases kept (Err Failed) = inl refl
leaves-added releases kept (Err Memory) = refl
