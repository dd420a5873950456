-- What compacting an open journal comes to.
use Rattle.std.specs.Prelude.{◌≡◌, ◌⊎◌, ◌+◌, ◌<◌, ◌≤◌, min, ℕ, List, Some, None, length}
use Rattle.decimal_rank.specs.Causes.{Rose}
use Rattle.disk_model.specs.Disks.{DiskState, EachMoment}
use Rattle.journal.specs.Format.{decode, place_behind}
use Rattle.rulebook.specs.declared.rules.Rules.{Rules}
use Rattle.rulebook.specs.Campaign.{History}
use Rattle.rulebook.specs.Words.{Text}
use Rattle.book.specs.declared.compacting.CompactEnd.{CompactEnd}
use Rattle.book.specs.declared.compacting.CompactEnd.TheVariants.{Done, Fault}
use Rattle.book.specs.declared.faults.BookFault.{BookFault}
use Rattle.book.specs.declared.faults.BookFault.TheVariants as fault
use Rattle.book.specs.Compaction.Compactings.{compacted_payloads}
use Rattle.book.specs.Images.{HoldsEntries, ImagesHold}
use Rattle.book.specs.Opening.OpenJournals.{GivenUp}
use Rattle.book.specs.Opening.Openings.{Establishes, OpensWith}

-- From a journal of these entries on.
module _ {D : Type 0} (seen : D → DiskState) (H : History) (old new : D) where
  -- its records were packed
  pub record IsPacked (before after : ℕ) : Type 0 where
    pub before_is : (image : List ℕ) → (seen old).images image → length image ≡ before
    pub after_is : after ≡ min before (place_behind (compacted_payloads H) + 1)
    pub moments : EachMoment seen old new (HoldsEntries H)
    pub alone : ImagesHold (seen new).images H None
    pub size : (image : List ℕ) → (seen new).images image → length image ≡ after
    pub packs : after < before → (image : List ℕ) → (seen new).images image → decode image ≡ Some (compacted_payloads H)
    pub later : (seen old).faults ≤ (seen new).faults

  -- they weren't
  pub record IsUnpacked (why : BookFault) : Type 0 where
    pub cause : (why ≡ fault.Memory) ⊎ ((why ≡ fault.Disk) × Rose (seen old).faults (seen new).faults)
    pub moments : EachMoment seen old new (HoldsEntries H)
    pub alone : ImagesHold (seen new).images H None
    pub later : (seen old).faults ≤ (seen new).faults

  abbrev pub PacksInto : ℕ → CompactEnd → Type 0
  PacksInto entries (Done count before after) = (count ≡ entries) × IsPacked before after
  PacksInto entries (Fault why) = IsUnpacked why

-- From an open journal on, whose records these are.
module _ {D : Type 0} (seen : D → DiskState) (rules : Rules) (payloads : List Text) (open_ : D) where
  -- it is the journal of these entries by then
  pub record EstablishedWith (H : History) (opened : D) : Type 0 where
    pub opens : OpensWith rules payloads H
    pub alone : ImagesHold (seen opened).images H None
    pub moments : EachMoment seen open_ opened (Establishes rules payloads)
    pub later : (seen open_).faults ≤ (seen opened).faults

  abbrev pub CompactsOpen : D → CompactEnd → Type 0
  CompactsOpen new (Done entries before after) =
      (H : History) × (opened : D) × EstablishedWith H opened × (entries ≡ length H) × IsPacked seen H opened new before after
  CompactsOpen new (Fault why) =
      GivenUp seen rules payloads 0 open_ new why ⊎ ((H : History) × (opened : D) × EstablishedWith H opened × IsUnpacked seen H opened new why)
