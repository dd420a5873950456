-- What each status says, whatever the words ask for.
use Rattle.std.specs.Prelude.{◌≡◌, ◌≤◌, ◌⊎◌, ℕ, true, List, Option, Some, None, IsTrue, is_some}
use Rattle.std.specs.Io.KnownBytes.{Appends}
use Rattle.decimal_rank.specs.Causes.{Rose}
use Rattle.decimal_rank.specs.Outputs.KnownBytes.{AppendsPart}
use Rattle.decimal_rank.specs.Outputs.Writings.{Writing}
use Rattle.disk_model.specs.Disks.{DiskState}
use Rattle.book.specs.Opening.Openings.{DiffersFrom}
use Rattle.book.specs.Stories.{BreaksAt}
use Rattle.journal.specs.Format.{decode}
use Rattle.rulebook.specs.declared.rules.Rules.{Rules}
use Rattle.rulebook.specs.Words.{Text}
use Rattle.campaign_server.specs.declared.numbers.ServerNumbers.{ServerNumbers}
use Rattle.campaign_settings.specs.declared.settings.Settings.{Settings}
use Rattle.campaign_settings.specs.Settings.{settings_of}
use Rattle.campaign_cli.specs.declared.endings.Cause.{Cause}
use Rattle.campaign_cli.specs.declared.endings.Cause.TheVariants.{Done, Usage, Input, File, Disk, Door, Memory, Output, Damaged, Link, Cut, Keeper, Unpublished, Differs, Unknown}
use Rattle.campaign_cli.specs.Ends.ArchiveEnds.{differs_line, unpublished_line}
use Rattle.campaign_cli.specs.Ends.BookEnds.{TellsSettings, entry_line, header_line, rules_line}
use Rattle.campaign_cli.specs.Causes.{Ending, status_number}
use Rattle.campaign_cli.specs.Endings.{kind_of}
use Rattle.campaign_cli.specs.Kinds.{Leaves}
use Rattle.campaign_cli.specs.Surroundings.Outside.{Outside}
use Rattle.campaign_cli.specs.Ends.ReportEnds.{no_release_line}
use Rattle.campaign_cli.specs.Requests.{Request, Archive, Compare, Serve, Session, Nothing, usage_line}
use Rattle.campaign_cli.specs.Surroundings.Shelves.{KeepsFiles}

-- the text, if there is one, was written whole
abbrev pub PrintsAll : Option (List ℕ) → Writing → Writing → Type 0
PrintsAll None old new = new ≡ old
PrintsAll (Some text) old new = Appends old.written new.written text

-- a write of it failed, and a part was written
abbrev pub PrintsPart : Option (List ℕ) → Writing → Writing → Type 0
PrintsPart None old new = ⊥
PrintsPart (Some text) old new = Rose old.faults new.faults × AppendsPart old.written new.written text

-- a line that says what is damaged
abbrev pub IsDamage : Option (List ℕ) → Type 0
IsDamage text = (text ≡ Some header_line) ⊎ ((entry : ℕ) × (text ≡ Some (entry_line entry)))

-- the bytes of a disk are no journal, or so many of the first entries that its records unfold to have no story while those before the last of them have one
abbrev pub IsDamaged : Rules → List ℕ → Type 0
IsDamaged rules bytes = (decode bytes ≡ None) ⊎ ((payloads : List Text) × (entry : ℕ) × (decode bytes ≡ Some payloads) × BreaksAt payloads entry)

-- its records have a story under other rules
abbrev pub IsOfOthers : Rules → List ℕ → Type 0
IsOfOthers rules bytes = (payloads : List Text) × (decode bytes ≡ Some payloads) × DiffersFrom rules payloads

-- with these causes a command ends that could do its work, where no call failed: that is done, or memory was short; a
-- session may be cut, and a command on the archive may find something else
abbrev pub IsComplete : Cause → Type 0
IsComplete Done = Unit {0}
IsComplete Usage = ⊥
IsComplete Input = ⊥
IsComplete File = ⊥
IsComplete Disk = ⊥
IsComplete Door = ⊥
IsComplete Memory = Unit {0}
IsComplete Output = ⊥
IsComplete Damaged = ⊥
IsComplete Link = ⊥
IsComplete Cut = Unit {0}
IsComplete Keeper = ⊥
IsComplete Unpublished = Unit {0}
IsComplete Differs = Unit {0}
IsComplete Unknown = Unit {0}

module _ {D : Type 0} (seen : D → DiskState) where
  -- What each cause says: where it comes, which call failed, and what is printed for it. What it is for is said by the command's ways that have it.
  abbrev pub Means : Cause → Option (List ℕ) → Request → Outside D → Outside D → Type 0
  Means Done text request old new = Unit {0}
  Means Usage text request old new = (request ≡ Nothing) × (text ≡ Some usage_line)
  Means Input text request old new = IsTrue (is_some text)
  Means File text request old new = (text ≡ None) × (Rose old.shelf.faults new.shelf.faults ⊎ Rose old.shelf.misses new.shelf.misses) × (new.disk ≡ old.disk)
  Means Disk text request old new = (text ≡ None) × Rose (seen old.disk).faults (seen new.disk).faults
  Means Door text request old new = (text ≡ None) × ((numbers : ServerNumbers) × (request ≡ Serve numbers)) × Rose old.door.faults new.door.faults
  Means Memory text request old new = text ≡ None
  Means Output text request old new = (text ≡ None) × (request ≡ Session) × Rose old.own.writing.faults new.own.writing.faults
  Means Damaged text request old new = IsDamage text
  Means Link text request old new = (text ≡ None) × (request ≡ Session) × Rose old.own.reading.faults new.own.reading.faults
  Means Cut text request old new = (text ≡ None) × (request ≡ Session)
  Means Keeper text request old new = (text ≡ None) × ((kind_of seen request).needs.archive ≡ true) × Rose old.keeper.faults new.keeper.faults
  Means Unpublished text request old new = (text ≡ Some unpublished_line) × ((name : List ℕ) × (request ≡ Archive name))
  Means Differs text request old new = (text ≡ Some differs_line) × ((name : List ℕ) × (request ≡ Archive name))
  Means Unknown text request old new =
      (first : List ℕ) × (second : List ℕ) × (request ≡ Compare first second) × ((text ≡ Some (no_release_line first)) ⊎ (text ≡ Some (no_release_line second)))

  -- The command ended in one of its ways, whose cause is so. It is the cause, and its text was printed whole; or a write of that failed.
  pub record Says (cause : Cause) (request : Request) (old new : Outside D) : Type 0 where
    pub way : (kind_of seen request).Way old new
    pub ending : Ending
    pub is : ending ≡ (kind_of seen request).cause_of old new way
    pub means : Means ending.cause ending.text request old new
    pub printed : ((cause ≡ ending.cause) × PrintsAll ending.text old.out new.out) ⊎ ((cause ≡ Output) × PrintsPart ending.text old.out new.out)

  -- the settings are told and accepted, and the disk tells bytes that have this property under their rules
  abbrev pub TellsDisk : Outside D → (Rules → List ℕ → Type 0) → Type 0
  TellsDisk old P = TellsSettings old.shelf (λ text. (settings : Settings) × (settings_of text ≡ Some settings)
      × ((bytes : List ℕ) × ((seen old.disk).content ≡ Some bytes) × P settings.rules bytes))

  -- the command has to tell its disk as damaged, or as another campaign's
  abbrev pub HasDamage : Request → Outside D → Type 0
  HasDamage request old = ((kind_of seen request).needs.book ≡ true) × TellsDisk old IsDamaged

  abbrev pub HasOtherRules : Request → Outside D → Type 0
  HasOtherRules request old = ((kind_of seen request).needs.book ≡ true) × TellsDisk old IsOfOthers

  -- no count of faults rose
  pub record IsCalm (old new : Outside D) : Type 0 where
    pub shelf : ¬ (Rose old.shelf.faults new.shelf.faults)
    pub out : ¬ (Rose old.out.faults new.out.faults)
    pub reading : ¬ (Rose old.own.reading.faults new.own.reading.faults)
    pub writing : ¬ (Rose old.own.writing.faults new.own.writing.faults)
    pub door : ¬ (Rose old.door.faults new.door.faults)
    pub disk : ¬ (Rose (seen old.disk).faults (seen new.disk).faults)
    pub keeper : ¬ (Rose old.keeper.faults new.keeper.faults)

  -- what a status says of what was asked
  pub record Statuses (request : Request) (old new : Outside D) (status : ℕ) : Type 0 where
    -- the status is that of a cause
    pub known : (cause : Cause) × (status ≡ status_number cause)
    -- the cause by its number is so; or there was no memory to read the words, and all is as it was
    pub says : (cause : Cause) → status ≡ status_number cause → Says cause request old new ⊎ ((cause ≡ Memory) × (new ≡ old))
    -- with its files there and within their grammars, so with its disk, and no count risen, the work is done or memory is short; a session may be cut
    pub complete : (kind_of seen request).can_do old → IsCalm old new → (cause : Cause) × (status ≡ status_number cause) × IsComplete cause
    -- with its files there, one outside its grammar, and no count risen, that is told or memory is short
    pub refused : (kind_of seen request).has_to_refuse old → IsCalm old new → (status ≡ 3) ⊎ (status ≡ 7)
    -- with its settings told and accepted, a damaged disk, and no count risen, that is told or memory is short; and so with another campaign's
    pub damaged : HasDamage request old → IsCalm old new → (status ≡ 9) ⊎ (status ≡ 7)
    pub differs : HasOtherRules request old → IsCalm old new → ((status ≡ 3) × Appends old.out.written new.out.written rules_line) ⊎ (status ≡ 7)
    -- the files stay, and no count of the shelf, the output or the archive's keeper falls
    pub shelf : KeepsFiles old.shelf new.shelf
    pub write_faults : old.out.faults ≤ new.out.faults
    pub keeper_faults : old.keeper.faults ≤ new.keeper.faults
    -- what the words don't need is as it was
    pub leaves : Leaves (kind_of seen request).needs old new
