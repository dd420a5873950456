-- What an append promises.
use Rattle.std.specs.Prelude.{◌≡◌, ◌+◌, ℕ, List, [], ◌∷◌, ◌++◌, length, OnErr, OnOk, Result}
use Rattle.decimal_rank.specs.Causes.{HasCause}
use Rattle.disk_model.specs.Disks.{DiskState, EachMoment}
use Rattle.journal.specs.declared.dues.Due.TheVariants.{Nothing}
use Rattle.journal.specs.Journals.{JournalState, KeepsRecords}
use Rattle.journal.specs.KeptRecords.{EndsClosed, HoldsRecordsOfOne, Settled, StillKeeps}

-- a call that adds a record of this payload, from one state of a journal to another, and acknowledges it by Ok
pub record Appends {D T E : Type 0} (seen : D → DiskState) (old new : JournalState D) (payload : List ℕ) (result : Result T E) : Type 0 where
  pub added : OnOk result ((all pending : List (List ℕ)) → KeepsRecords seen old all pending
      → Settled (seen new.disk).images new.place (all ++ payload ∷ []))
  pub closed : OnOk result (EndsClosed (seen new.disk).images new.place)
  pub nothing_due : OnOk result (new.due ≡ Nothing)
  pub place : OnOk result (new.place ≡ old.place + 5 + length payload)
  pub place_err : OnErr result (new.place ≡ old.place)
  pub kept : OnErr result ((all pending : List (List ℕ)) → KeepsRecords seen old all pending
      → StillKeeps (seen new.disk).images new.place new.due all pending payload)
  pub any_moment : (all pending : List (List ℕ)) → KeepsRecords seen old all pending
      → EachMoment seen old.disk new.disk (HoldsRecordsOfOne all pending payload)
  pub cause : HasCause (seen old.disk).faults (seen new.disk).faults result
