-- What compacting a journal comes to: its records are replaced by bundles of entries, and its story stays.
use Rattle.std.specs.Prelude.{◌≡◌, ◌⊎◌, ◌==◌, ◌+◌, ◌<◌, ◌≤◌, if◌then◌else◌, min, ℕ, List, [], ◌∷◌, ◌++◌, Some, None, length}
use Rattle.decimal_rank.specs.Causes.{Rose}
use Rattle.disk_model.specs.Disks.{DiskState, EachMoment}
use Rattle.journal.specs.Format.{decode, place_behind}
use Rattle.journal.specs.Moments.{Turned}
use Rattle.record_codec.specs.Bundles.{bundle_bytes, is_brief, most_bundled}
use Rattle.rulebook.specs.declared.entry.EntryCore.{EntryCore}
use Rattle.rulebook.specs.declared.rules.Rules.{Rules}
use Rattle.rulebook.specs.Campaign.{History}
use Rattle.rulebook.specs.Spelling.{entry_bytes}
use Rattle.rulebook.specs.Words.{Text}
use Rattle.book.specs.declared.compacting.CompactEnd.{CompactEnd}
use Rattle.book.specs.declared.compacting.CompactEnd.TheVariants.{Done, Fault}
use Rattle.book.specs.declared.faults.BookFault.{BookFault}
use Rattle.book.specs.declared.faults.BookFault.TheVariants as fault
use Rattle.book.specs.Images.{HoldsEntries, ImagesHold}
use Rattle.book.specs.Opening.Openings.{OpensTo, OpensWith, ReadsPayloads, Refused}
use Rattle.book.specs.Stories.{cores_of}

-- the bundle of a part, where it has entries
abbrev pub bundle_of_part : List EntryCore → List Text
bundle_of_part [] = []
bundle_of_part (core ∷ part) = bundle_bytes (core ∷ part) ∷ []

-- the payloads of a bundle that has begun with a part, and of the entries behind it: a bundle has as many entries as it
-- may have, and fewer where it ends with the entries or at one that no bundle may have, which stands by its spelling
abbrev pub packed_payloads : List EntryCore → List EntryCore → List Text
packed_payloads part [] = bundle_of_part part
packed_payloads part (core ∷ cores) =
    if is_brief core.command then
    (if length part == most_bundled then bundle_bytes part ∷ packed_payloads (core ∷ []) cores else packed_payloads (part ++ core ∷ []) cores)
    else bundle_of_part part ++ entry_bytes core ∷ packed_payloads [] cores

-- the payloads of a compacted journal: each founding, topics and submission by its spelling, and each stretch of other entries in bundles
abbrev pub compacted_payloads : History → List Text
compacted_payloads H = packed_payloads [] (cores_of H)

-- Compacting the journal of a campaign of these rules on a disk.
module _ {D : Type 0} (seen : D → DiskState) (rules : Rules) (disk : D) where
  -- The journal was opened, by this moment: these entries are those that the disk told, or the founding one, and its disk stands for them alone.
  pub record OpenedWith (history : History) (opened : D) : Type 0 where
    pub payloads : List Text
    pub reads : ReadsPayloads (seen disk).content payloads
    pub opens : OpensWith rules payloads history
    pub alone : ImagesHold (seen opened).images history None
    pub moments : Turned seen disk opened (OpensTo (seen disk).content rules)

  -- Once opened, each image has the entries as its story at each moment; at the end the file is the lesser of what it
  -- was and of the compacted journal, which it gives where that is less.
  pub record Compacts (entries before after : ℕ) (new : D) : Type 0 where
    pub history : History
    pub opened : D
    pub opening : OpenedWith history opened
    pub entries_is : entries ≡ length history
    pub before_is : (image : List ℕ) → (seen opened).images image → length image ≡ before
    pub after_is : after ≡ min before (place_behind (compacted_payloads history) + 1)
    pub moments : EachMoment seen opened new (HoldsEntries history)
    pub alone : ImagesHold (seen new).images history None
    pub size : (image : List ℕ) → (seen new).images image → length image ≡ after
    pub packs : after < before → (image : List ℕ) → (seen new).images image → decode image ≡ Some (compacted_payloads history)
    pub later : (seen disk).faults ≤ (seen new).faults

  -- Opened, and not compacted: memory was short, or a call on the disk failed. Each image has the entries as its story still.
  pub record LeavesStory (why : BookFault) (new : D) : Type 0 where
    pub history : History
    pub opened : D
    pub opening : OpenedWith history opened
    pub cause : (why ≡ fault.Memory) ⊎ ((why ≡ fault.Disk) × Rose (seen disk).faults (seen new).faults)
    pub moments : EachMoment seen opened new (HoldsEntries history)
    pub alone : ImagesHold (seen new).images history None
    pub later : (seen disk).faults ≤ (seen new).faults

  -- what a compaction comes to
  abbrev pub CompactsTo : D → CompactEnd → Type 0
  CompactsTo new (Done entries before after) = Compacts entries before after new
  CompactsTo new (Fault why) = Refused seen rules disk new why ⊎ LeavesStory why new
