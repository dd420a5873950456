-- The campaign of the settings, as it was opened from the disk, and how a command ends that works on it, or didn't get it.
use Rattle.std.specs.Prelude.{◌≡◌, ◌⊎◌, ℕ, List, Option, Some, None, codes}
use Rattle.disk_model.specs.Disks.{DiskState}
use Rattle.book.specs.declared.faults.BookFault.{BookFault}
use Rattle.book.specs.declared.faults.BookFault.TheVariants as fault
use Rattle.book.specs.Books.{BookView}
use Rattle.book.specs.Opening.Openings.{Opened, Refused}
use Rattle.book.specs.Opening.OpeningLaws.{MayOpen}
use Rattle.journal.specs.Format.{decode}
use Rattle.routes.specs.declared.keys.KeyRow.{KeyRow}
use Rattle.rulebook.specs.declared.rules.Rules.{Rules}
use Rattle.rulebook.specs.Words.{Text}
use Rattle.campaign_settings.specs.declared.settings.Settings.{Settings}
use Rattle.campaign_settings.specs.Settings.{settings_of}
use Rattle.campaign_cli.specs.declared.endings.Cause.TheVariants as cause
use Rattle.campaign_cli.specs.Causes.{Ending, IsUnread, says, silent}
use Rattle.campaign_cli.specs.Kinds.{Kind, Needs}
use Rattle.campaign_cli.specs.Surroundings.Outside.{Outside, MissesFile, word_line}
use Rattle.campaign_cli.specs.Surroundings.Shelves.{Files, GivesFile, KeepsFiles, ShelfState, file_at}

-- the file with the settings
abbrev pub settings_file : List ℕ
settings_file = codes "campaign.toml"

-- what is printed where the settings are refused
abbrev pub settings_line : List ℕ
settings_line = codes "input: campaign.toml\n"

-- what is printed where the disk is another campaign's
abbrev pub rules_line : List ℕ
rules_line = codes "input: rules\n"

abbrev pub header_line : List ℕ
header_line = codes "damaged header\n"

abbrev pub entry_line : ℕ → List ℕ
entry_line entry = word_line (codes "damaged entry ") entry

-- the shelf may give the settings, and they have this property
abbrev pub GivesSettings : ShelfState → (Settings → Type 0) → Type 0
GivesSettings shelf P =
    (text : List ℕ) × (settings : Settings) × GivesFile shelf settings_file text × (settings_of text ≡ Some settings) × P settings

-- the shelf may give these settings
abbrev pub IsGiven : ShelfState → Settings → Type 0
IsGiven shelf settings = (text : List ℕ) × GivesFile shelf settings_file text × (settings_of text ≡ Some settings)

-- the shelf may give settings that are refused
abbrev pub RefusesSettings : ShelfState → Type 0
RefusesSettings shelf = (text : List ℕ) × GivesFile shelf settings_file text × (settings_of text ≡ None)

-- the shelf tells the file with the settings, and its bytes have this property
abbrev pub TellsSettings : ShelfState → (List ℕ → Type 0) → Type 0
TellsSettings shelf P =
    (files : Files) × (bytes : List ℕ) × (shelf.files ≡ Some files) × (file_at files settings_file ≡ Some bytes) × P bytes

-- the disk tells these records
abbrev pub TellsRecords : Option (List ℕ) → List Text → Type 0
TellsRecords content payloads = (bytes : List ℕ) × (content ≡ Some bytes) × (decode bytes ≡ Some payloads)

-- the ways in which there are no settings: they are refused, they weren't read, or there was no memory for them
pub data NoSettings (shelf later : ShelfState) : Type 0 where
  refused : RefusesSettings shelf → NoSettings shelf later
  missed : MissesFile shelf later settings_file → NoSettings shelf later
  short : NoSettings shelf later

abbrev pub cause_without_settings : {shelf later : ShelfState} → NoSettings shelf later → Ending
cause_without_settings (refused none) = says cause.Input settings_line
cause_without_settings (missed none) = silent cause.File
cause_without_settings short = silent cause.Memory

-- what is told of a disk that isn't opened, or fails once it is
abbrev pub cause_of_fault : BookFault → Ending
cause_of_fault fault.Disk = silent cause.Disk
cause_of_fault fault.Header = says cause.Damaged header_line
cause_of_fault (fault.Damaged entry) = says cause.Damaged (entry_line entry)
cause_of_fault fault.RulesDiffer = says cause.Input rules_line
cause_of_fault fault.Memory = silent cause.Memory

-- so it is told, or there was no memory for the line
abbrev pub IsToldOf : BookFault → Ending → Type 0
IsToldOf why ending = (ending ≡ cause_of_fault why) ⊎ ((entry : ℕ) × (why ≡ fault.Damaged entry) × (ending ≡ silent cause.Memory))

module _ {D : Type 0} (seen : D → DiskState) where
  -- the shelf gives the settings, and the disk was opened under their rules
  pub record IsOpened (shelf : ShelfState) (disk : D) (book : BookView D) (callers : List KeyRow) : Type 0 where
    pub text : List ℕ
    pub settings : Settings
    pub given : GivesFile shelf settings_file text
    pub read : settings_of text ≡ Some settings
    pub callers_are : callers ≡ settings.callers
    pub opened : Opened seen settings.rules disk book

  -- the ways in which there is no campaign
  pub data Unopened (shelf later : ShelfState) (disk after : D) : Type 0 where
    -- there are no settings, and the disk is as it was
    unset : NoSettings shelf later → after ≡ disk → Unopened shelf later disk after
    -- the settings are read, and the disk isn't opened under their rules
    not_opened : (why : BookFault) → GivesSettings shelf (λ settings. Refused seen settings.rules disk after why) → Unopened shelf later disk after
    -- it is damaged, and there was no memory to tell it
    not_told : (entry : ℕ) → GivesSettings shelf (λ settings. Refused seen settings.rules disk after (fault.Damaged entry)) → Unopened shelf later disk after

  abbrev pub cause_of_none : {shelf later : ShelfState} → {disk after : D} → Unopened shelf later disk after → Ending
  cause_of_none (unset none same) = cause_without_settings none
  cause_of_none (not_opened why none) = cause_of_fault why
  cause_of_none (not_told entry none) = silent cause.Memory

  -- the ways in which a command ends that keeps a campaign: the settings are read, the disk is opened and the command
  -- did its work, or there is no campaign, and all else is still
  pub data BookWay (Work : Settings → Type 0) (Still : Type 0) (shelf later : ShelfState) (disk after : D) : Type 0 where
    worked : GivesSettings shelf Work → BookWay Work Still shelf later disk after
    unopened : Unopened shelf later disk after → Still → BookWay Work Still shelf later disk after

  -- the cause of each, by those of the work
  abbrev pub cause_by_work : {Work : Settings → Type 0} → {Still : Type 0} → ((settings : Settings) → Work settings → Ending)
      → {shelf later : ShelfState} → {disk after : D} → BookWay Work Still shelf later disk after → Ending
  cause_by_work cause_of (worked w) = cause_of w.1 w.4
  cause_by_work cause_of (unopened none still) = cause_of_none none

  -- how such a command ends
  pub record BookEnds (Work : Settings → Type 0) (Still : Type 0) (cause_of : (settings : Settings) → Work settings → Ending)
      (shelf later : ShelfState) (disk after : D) (ending : Ending) : Type 0 where
    pub way : BookWay Work Still shelf later disk after
    pub told : ending ≡ cause_by_work cause_of way
    pub follows : KeepsFiles shelf later

  -- the settings are told and accepted, and the disk tells records with a story under their rules, or none
  abbrev pub CanOpen : Outside D → Type 0
  CanOpen old = TellsSettings old.shelf (λ bytes. (settings : Settings) × (settings_of bytes ≡ Some settings)
      × ((payloads : List Text) × TellsRecords (seen old.disk).content payloads × MayOpen settings.rules payloads))

  abbrev pub book_kind : Needs → (Work : Outside D → Outside D → Settings → Type 0) → (Still : Outside D → Outside D → Type 0)
      → ((old new : Outside D) → (settings : Settings) → Work old new settings → Ending) → Kind D
  book_kind needs Work Still cause_of = record {
    Way = λ old new. BookWay (Work old new) (Still old new) old.shelf new.shelf old.disk new.disk;
    cause_of = λ old new way. cause_by_work (cause_of old new) way;
    needs = needs;
    can_do = CanOpen;
    has_to_refuse = λ old. TellsSettings old.shelf (λ bytes. settings_of bytes ≡ None);
  }
