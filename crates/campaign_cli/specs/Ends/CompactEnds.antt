-- How `compact` ends.
use Rattle.std.specs.Prelude.{ℕ, List, ◌++◌, codes}
use Rattle.disk_model.specs.Disks.{DiskState}
use Rattle.book.specs.declared.compacting.CompactEnd.{CompactEnd}
use Rattle.book.specs.declared.compacting.CompactEnd.TheVariants.{Done, Fault}
use Rattle.book.specs.declared.faults.BookFault.{BookFault}
use Rattle.book.specs.Compaction.Compactings.{Compacts, CompactsTo, LeavesStory}
use Rattle.campaign_settings.specs.declared.settings.Settings.{Settings}
use Rattle.campaign_cli.specs.declared.endings.Cause.TheVariants as cause
use Rattle.campaign_cli.specs.Ends.BookEnds.{BookEnds, IsToldOf, book_kind, cause_of_fault}
use Rattle.campaign_cli.specs.Causes.{Ending, SaysOrShort, says, silent}
use Rattle.campaign_cli.specs.Kinds.{Kind, a_book}
use Rattle.campaign_cli.specs.Surroundings.Outside.{word_line}
use Rattle.campaign_cli.specs.Surroundings.Shelves.{ShelfState}

-- how many entries there are, and how many bytes the journal had once it was opened, and has now
abbrev pub compact_text : ℕ → ℕ → ℕ → List ℕ
compact_text entries before after =
    word_line (codes "entries ") entries ++ word_line (codes "before ") before ++ word_line (codes "after ") after

module _ {D : Type 0} (seen : D → DiskState) where
  -- What comes of the journal of the campaign of these settings, and what is told of that.
  abbrev pub IsToldEnd : CompactEnd → Ending → Type 0
  IsToldEnd (Done entries before after) ending = SaysOrShort cause.Done (compact_text entries before after) ending
  IsToldEnd (Fault why) ending = IsToldOf why ending

  abbrev pub Compacting : Settings → D → D → Ending → Type 0
  Compacting settings disk after ending = (end : CompactEnd) × CompactsTo seen settings.rules disk after end × IsToldEnd end ending

  -- What comes of the journal of the campaign of these settings, once it is opened. The disk was as the first, and is as the second.
  pub data CompactWork (disk after : D) (settings : Settings) : Type 0 where
    -- it is compacted: the three numbers are printed, or there was no memory for them
    packed : (entries before size : ℕ) → Compacts seen settings.rules disk entries before size after → CompactWork disk after settings
    short : (entries before size : ℕ) → Compacts seen settings.rules disk entries before size after → CompactWork disk after settings
    -- a call on the disk failed, or memory was short, and it is left with its entries
    left : (why : BookFault) → LeavesStory seen settings.rules disk why after → CompactWork disk after settings

  abbrev pub cause_of : {disk after : D} → (settings : Settings) → CompactWork disk after settings → Ending
  cause_of settings (packed entries before size compacts) = says cause.Done (compact_text entries before size)
  cause_of settings (short entries before size compacts) = silent cause.Memory
  cause_of settings (left why leaves) = cause_of_fault why

  abbrev pub CompactEnds : ShelfState → ShelfState → D → D → Ending → Type 0
  CompactEnds shelf later disk after = BookEnds seen (CompactWork disk after) (Unit {0}) cause_of shelf later disk after

  abbrev pub compact_kind : Kind D
  compact_kind = book_kind seen a_book (λ old new. CompactWork old.disk new.disk) (λ old new. Unit {0}) (λ old new. cause_of)
