-- What replacing the records of a journal comes to.
use Rattle.std.specs.Prelude.{◌≡◌, ◌⊎◌, ◌+◌, ◌<◌, ◌≤◌, ℕ, List, Some, length}
use Rattle.decimal_rank.specs.Causes.{Rose}
use Rattle.disk_model.specs.Disks.{DiskState, EachMoment}
use Rattle.journal.specs.declared.dues.Due.{Due}
use Rattle.journal.specs.declared.dues.Due.TheVariants.{Nothing}
use Rattle.journal.specs.declared.replacing.ReplaceEnd.{ReplaceEnd}
use Rattle.journal.specs.declared.replacing.ReplaceEnd.TheVariants.{Done, Larger, Failed}
use Rattle.journal.specs.Format.{decode, place_behind}
use Rattle.journal.specs.KeptRecords.{EndsClosed, HoldsRecords, Keeps, Settled}
use Rattle.journal.specs.MovedAreas.{GivesOneOf}

-- each image gives these records, and ends with the gate behind them
abbrev pub HasAlone : (List ℕ → Type 0) → List (List ℕ) → Type 0
HasAlone images all = (image : List ℕ) → images image → (decode image ≡ Some all) × (length image ≡ place_behind all + 1)

module _ {D : Type 0} (seen : D → DiskState) (old new : D) (place : ℕ) where
  -- the records were moved in; or they take more room than the old ones, which stand; or the disk failed
  abbrev pub Comes : (Type 0) → List (List ℕ) → ReplaceEnd → Type 0
  Comes stands area Done = (place_behind area ≤ place) × HasAlone (seen new).images area × EndsClosed (seen new).images (place_behind area)
  Comes stands area Larger = (place < place_behind area) × stands
  Comes stands area Failed = Rose (seen old).faults (seen new).faults

  -- where nothing is due
  pub record Puts (area : List (List ℕ)) (ended : ReplaceEnd) : Type 0 where
    pub comes : Comes ((all : List (List ℕ)) → Settled (seen old).images place all → HasAlone (seen new).images all) area ended
    pub moments : (all : List (List ℕ)) → Settled (seen old).images place all → EachMoment seen old new (GivesOneOf all area)
    pub larger : place < place_behind area → (ended ≡ Larger) × (new ≡ old)
    pub later : (seen old).faults ≤ (seen new).faults

  -- The old records, and perhaps the pending ones, up to a mend that was due; from it on the old records or the new ones.
  pub record MovesOver (all pending area : List (List ℕ)) : Type 0 where
    pub mended : D
    pub first : EachMoment seen old mended (HoldsRecords all pending)
    pub then : EachMoment seen mended new (GivesOneOf all area)

  -- so it is, or the mend failed
  abbrev pub Moves : List (List ℕ) → List (List ℕ) → List (List ℕ) → Type 0
  Moves all pending area = EachMoment seen old new (HoldsRecords all pending) ⊎ MovesOver all pending area

  -- where the new records take more room: nothing is written but by a mend that was due
  pub record LeavesRecords (due : Due) (ended : ReplaceEnd) : Type 0 where
    pub untouched : due ≡ Nothing → (ended ≡ Larger) × (new ≡ old)
    pub moments : (all pending : List (List ℕ)) → Keeps (seen old).images place due all pending → EachMoment seen old new (HoldsRecords all pending)

  pub record Replaces (due : Due) (area : List (List ℕ)) (ended : ReplaceEnd) : Type 0 where
    pub comes : Comes ((all pending : List (List ℕ)) → Keeps (seen old).images place due all pending → HasAlone (seen new).images all) area ended
    pub moments : (all pending : List (List ℕ)) → Keeps (seen old).images place due all pending → Moves all pending area
    pub larger : place < place_behind area → LeavesRecords due ended
    pub later : (seen old).faults ≤ (seen new).faults
