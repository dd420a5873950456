-- Why the program ends: the causes of its statuses, and what is printed for them.
use Rattle.std.specs.Prelude.{◌≡◌, ◌≤◌, ◌⊎◌, ℕ, List, Option, Some, None}
use Rattle.std.specs.Io.KnownBytes.{Appends}
use Rattle.decimal_rank.specs.Causes.{Rose}
use Rattle.decimal_rank.specs.Outputs.KnownBytes.{AppendsPart}
use Rattle.decimal_rank.specs.Outputs.Writings.{Writing}
use Rattle.campaign_cli.specs.declared.endings.Cause.{Cause}
use Rattle.campaign_cli.specs.declared.endings.Cause.TheVariants.{Done, Usage, Input, File, Disk, Door, Memory, Output, Damaged, Link, Cut, Keeper, Unpublished, Differs, Unknown}
use Rattle.campaign_cli.specs.declared.endings.Outcome.{Outcome}
use Rattle.campaign_cli.specs.declared.endings.Outcome.TheVariants as outcome
use Rattle.campaign_cli.specs.Surroundings.Outside.{MissesFile}
use Rattle.campaign_cli.specs.Surroundings.Shelves.{ShelfState}

-- the status of each cause
abbrev pub status_number : Cause → ℕ
status_number Done = 0
status_number Usage = 2
status_number Input = 3
status_number File = 4
status_number Disk = 5
status_number Door = 6
status_number Memory = 7
status_number Output = 8
status_number Damaged = 9
status_number Link = 10
status_number Cut = 11
status_number Keeper = 12
status_number Unpublished = 13
status_number Differs = 14
status_number Unknown = 15

-- what a command comes to: a cause, and the text that is printed for it, where there is one
pub record Ending : Type 0 where
  pub cause : Cause
  pub text : Option (List ℕ)

abbrev pub silent : Cause → Ending
silent cause = record { cause = cause; text = None }

abbrev pub says : Cause → List ℕ → Ending
says cause text = record { cause = cause; text = Some text }

-- an ending as the code has it
abbrev pub ending_of : Outcome → Ending
ending_of (outcome.Silent cause) = silent cause
ending_of (outcome.Line cause line) = says cause line.now
ending_of (outcome.Text cause text) = says cause text.items

-- A command ended in a way, with the cause and the text of this way.
pub record IsWay (Way : Type 0) (cause_of : Way → Ending) (ending : Ending) : Type 0 where
  pub way : Way
  pub told : ending ≡ cause_of way

-- the text was made, or there was no memory for it
abbrev pub SaysOrShort : Cause → List ℕ → Ending → Type 0
SaysOrShort cause text ending = (ending ≡ says cause text) ⊎ (ending ≡ silent Memory)

-- the file wasn't read, or there was no memory for its bytes
abbrev pub IsUnread : ShelfState → ShelfState → List ℕ → Cause → Type 0
IsUnread old new name cause = ((cause ≡ File) × MissesFile old new name) ⊎ (cause ≡ Memory)

-- The text was written whole and the program ends with the status, or a write failed, a part of it was written, and the program ends with 8.
pub record Prints (old new : Writing) (text : List ℕ) (status ended : ℕ) : Type 0 where
  pub later : old.faults ≤ new.faults
  pub either : ((ended ≡ status) × Appends old.written new.written text)
      ⊎ ((ended ≡ 8) × Rose old.faults new.faults × AppendsPart old.written new.written text)

-- what is printed, if anything is, and the status that the program ends with
abbrev pub PrintsIf : Option (List ℕ) → Writing → Writing → ℕ → ℕ → Type 0
PrintsIf None old new status ended = (new ≡ old) × (ended ≡ status)
PrintsIf (Some text) old new status ended = Prints old new text status ended

abbrev pub TellsEnding : Ending → Writing → Writing → ℕ → Type 0
TellsEnding ending old new ended = PrintsIf ending.text old new (status_number ending.cause) ended
