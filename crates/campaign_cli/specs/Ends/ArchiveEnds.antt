-- How `archive` ends.
use Rattle.std.specs.Prelude.{◌≡◌, ◌≢◌, ◌⊎◌, ℕ, List, Some, Result, Ok, Err, IfSome, codes, true}
use Rattle.disk_model.specs.Disks.{DiskState}
use Rattle.book.specs.Books.{BookView}
use Rattle.release_archive.specs.declared.ends.ArchiveEnd.{ArchiveEnd}
use Rattle.release_archive.specs.declared.ends.ArchiveEnd.TheVariants as archive_end
use Rattle.release_archive.specs.declared.ends.Archived.{Archived}
use Rattle.release_archive.specs.declared.ends.Archived.TheVariants.{New, Same}
use Rattle.release_archive.specs.declared.kept.Kept.{Kept}
use Rattle.release_archive.specs.ArchivedReleases.{Archives, IsReleaseAdded}
use Rattle.release_archive.specs.Keepers.{KeeperState}
use Rattle.release_archive.specs.Releases.{release_named}
use Rattle.rulebook.specs.declared.rules.Phase.TheVariants as phase_name
use Rattle.rulebook.specs.Campaign.{History, phase}
use Rattle.rulebook.specs.Reports.Pages.{qrels_page}
use Rattle.rulebook.specs.Reports.Systems.{systems}
use Rattle.campaign_settings.specs.declared.settings.Settings.{Settings}
use Rattle.campaign_cli.specs.declared.endings.Cause.TheVariants as cause
use Rattle.campaign_cli.specs.Ends.BookEnds.{BookEnds, GivesSettings, book_kind}
use Rattle.campaign_cli.specs.Causes.{Ending, says, silent}
use Rattle.campaign_cli.specs.Kinds.{Finishes, Kind, a_book}
use Rattle.campaign_cli.specs.Surroundings.Outside.{Outside, name_line}
use Rattle.campaign_cli.specs.Surroundings.Shelves.{ShelfState}
use Rattle.campaign_cli.specs.Ends.ShownEnds.{Shows}

-- what an archive keeps of a published campaign: the qrels of its release, and its systems
abbrev pub release_of_history : List ℕ → History → Kept
release_of_history name H = record { name = name; qrels = qrels_page H; systems = systems H }

-- what is printed where the release is new in the archive
abbrev pub archived_line : List ℕ → List ℕ
archived_line name = name_line (codes "archived ") name

-- what is printed where the same one was there
abbrev pub kept_line : List ℕ → List ℕ
kept_line name = name_line (codes "kept ") name

-- what is printed where another one has the name
abbrev pub differs_line : List ℕ
differs_line = codes "differs\n"

-- what is printed where the campaign isn't published
abbrev pub unpublished_line : List ℕ
unpublished_line = codes "unpublished\n"

-- what is told of a release that was to be archived, by what came of it
abbrev pub cause_of_answer : List ℕ → Result Archived ArchiveEnd → Ending
cause_of_answer name (Ok New) = says cause.Done (archived_line name)
cause_of_answer name (Ok Same) = says cause.Done (kept_line name)
cause_of_answer name (Err archive_end.Differs) = says cause.Differs differs_line
cause_of_answer name (Err archive_end.Failed) = silent cause.Keeper
cause_of_answer name (Err archive_end.Memory) = silent cause.Memory

-- A release was to be put into the archive, and what came of that is told; or there was no memory for what is to be
-- printed. The archive was as the first, and is as the second.
abbrev pub PutsRelease : List ℕ → Kept → KeeperState → KeeperState → Ending → Type 0
PutsRelease name kept before after ending =
    ((answer : Result Archived ArchiveEnd) × Archives before kept answer after × (ending ≡ cause_of_answer name answer))
    ⊎ ((after ≡ before) × (ending ≡ silent cause.Memory))

-- What comes of a campaign with these entries that is to be archived. The archive was as the first, and is as the second.
pub data Archiving (name : List ℕ) (H : History) (before after : KeeperState) : Type 0 where
  -- it is published: its release is put into the archive
  released : phase H ≡ phase_name.Published → (answer : Result Archived ArchiveEnd)
      → Archives before (release_of_history name H) answer after → Archiving name H before after
  -- there was no memory for the release, or for what is to be printed
  short : after ≡ before → Archiving name H before after
  -- it isn't published, and that is told
  not_published : phase H ≢ phase_name.Published → after ≡ before → Archiving name H before after

abbrev pub cause_of : {H : History} → {before after : KeeperState} → (name : List ℕ) → Archiving name H before after → Ending
cause_of name (released published answer archives) = cause_of_answer name answer
cause_of name (short same) = silent cause.Memory
cause_of name (not_published other same) = says cause.Unpublished unpublished_line

module _ {D : Type 0} (seen : D → DiskState) (name : List ℕ) where
  -- the campaign of these settings is to be archived
  pub record ArchiveWork (before later : KeeperState) (disk after : D) (settings : Settings) : Type 0 where
    pub book : BookView D
    pub shows : Shows seen disk after settings book
    pub comes : Archiving name book.history before later

  abbrev pub archive_cause : {before later : KeeperState} → {disk after : D} → (settings : Settings) → ArchiveWork before later disk after settings → Ending
  archive_cause settings work = cause_of name work.comes

  abbrev pub ArchiveEnds : KeeperState → KeeperState → ShelfState → ShelfState → D → D → Ending → Type 0
  ArchiveEnds keeper later_keeper shelf later disk after =
      BookEnds seen (ArchiveWork keeper later_keeper disk after) (later_keeper ≡ keeper) archive_cause shelf later disk after

  abbrev pub archive_kind : Kind D
  archive_kind = book_kind seen (record a_book { archive = true; adding = true })
      (λ old new. ArchiveWork old.keeper new.keeper old.disk new.disk)
      (λ old new. new.keeper ≡ old.keeper) (λ old new. archive_cause)

  -- the campaign of the settings that the shelf may give was opened, and its entries have this property
  abbrev pub ShowsCampaign : Outside D → Outside D → (History → Type 0) → Type 0
  ShowsCampaign old new P = GivesSettings old.shelf (λ settings. (book : BookView D) × Shows seen old.disk new.disk settings book × P book.history)

  -- What is held then: what was held, and behind it at most one release, that of a published campaign whose name wasn't held.
  pub record ArchivesOne (old new : Outside D) (status : ℕ) : Type 0 where
    pub held : (new.keeper.held ≡ old.keeper.held)
        ⊎ ShowsCampaign old new (λ H. (phase H ≡ phase_name.Published) × IsReleaseAdded old.keeper.held (release_of_history name H) new.keeper.held)
    -- where the work is done it is held, if the archive is told
    pub done : status ≡ 0
        → ShowsCampaign old new (λ H. IfSome new.keeper.held (λ releases. release_named releases name ≡ Some (release_of_history name H)))
    -- where memory is short, or another one has the name, all is as it was
    pub short : status ≡ 7 → new.keeper.held ≡ old.keeper.held
    pub differs : status ≡ 14 → new.keeper.held ≡ old.keeper.held

-- However `archive` ends, it adds one release at most, and only what it says.
abbrev pub ArchivesAddOne : {D : Type 0} → (D → DiskState) → Type 0
ArchivesAddOne {D} seen = (name : List ℕ) (old new : Outside D) (status : ℕ)
    → Finishes (archive_kind seen name) old new status → ArchivesOne seen name old new status
