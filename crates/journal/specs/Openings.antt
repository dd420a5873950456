-- What opening a journal comes to: the records of its disk, or why they aren't given.
use Rattle.std.specs.Prelude.{◌≡◌, ◌≢◌, ◌<◌, ◌≤◌, ◌^◌, ℕ, List, None, Some, IfSome, length}
use Rattle.decimal_rank.specs.Causes.{Rose}
use Rattle.disk_model.specs.Disks.{DiskState, NoFurther}
use Rattle.journal.specs.declared.opening.OpenFault.{OpenFault}
use Rattle.journal.specs.declared.opening.OpenFault.TheVariants as open_fault
use Rattle.journal.specs.Format.{decode, empty_journal}
use Rattle.journal.specs.KeptRecords.{Settled}
use Rattle.journal.specs.Moments.{DecodesAs, Turned, Turns}

-- each image is these bytes: more than an empty journal has, and fewer than are opened
pub record HasBytes (images : List ℕ → Type 0) (bytes : List ℕ) : Type 0 where
  pub alone : (image : List ℕ) → images image → image ≡ bytes
  pub long : 17 < length bytes
  pub few : length bytes < 2 ^ 39

-- these records are those that the bytes give, and each image has them and a closed gate at this place
pub record RecoveredFrom (images : List ℕ → Type 0) (bytes : List ℕ) (place : ℕ) (all : List (List ℕ)) : Type 0 where
  pub read : decode bytes ≡ Some all
  pub settled : Settled images place all
  pub within : place < 2 ^ 39

module _ {D : Type 0} (seen : D → DiskState) (old new : D) where
  -- the bytes give no records, or memory is short: the disk is as it was; or a call on it failed
  pub record NotRecoveredFrom (bytes : List ℕ) (fault : OpenFault) : Type 0 where
    pub header : fault ≡ open_fault.Header → decode bytes ≡ None
    pub untouched : fault ≢ open_fault.Disk → new ≡ old
    pub rose : fault ≡ open_fault.Disk → Rose (seen old).faults (seen new).faults

  -- these records are those that the disk told, and each image has them and a closed gate at this place
  pub record Recovered (place : ℕ) (all : List (List ℕ)) : Type 0 where
    pub read : IfSome (seen old).content (λ bytes. decode bytes ≡ Some all)
    pub settled : Settled (seen new).images place all
    -- at most a header and a gate, whatever they were, become an empty journal
    pub empty : IfSome (seen old).content (λ bytes. length bytes ≤ 17 → (image : List ℕ) → (seen new).images image → image ≡ empty_journal)
    pub within : place < 2 ^ 39
    pub any_moment : Turned seen old new (DecodesAs (seen old).content)
    pub later : (seen old).faults ≤ (seen new).faults

  -- why they aren't given, and what is left of the disk
  pub record NotRecovered (fault : OpenFault) : Type 0 where
    pub header : fault ≡ open_fault.Header → IfSome (seen old).content (λ bytes. decode bytes ≡ None)
    pub untouched : fault ≢ open_fault.Disk → ((seen new).content ≡ (seen old).content) × NoFurther (seen old).images (seen new).images
    pub rose : fault ≡ open_fault.Disk → Rose (seen old).faults (seen new).faults
    pub any_moment : Turns seen old new (DecodesAs (seen old).content)
    pub later : (seen old).faults ≤ (seen new).faults
