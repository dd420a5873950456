-- How far a run was read, and what is kept of it.
use Rattle.std.specs.Prelude.{◌≡◌, ◌≤◌, ◌+◌, ◌||◌, not, ℕ, Bool, true, List, [], ◌∷◌, ◌++◌, length, filter}
use Rattle.std.specs.List.{list_all, slice_split}
use Rattle.trec_formats.specs.declared.runs.run_fields.KeptLine.{KeptLine}
use Rattle.trec_formats.specs.declared.runs.run_reader.Ended.{Ended}
use Rattle.trec_formats.specs.declared.runs.run_reader.RunReading.{RunReading}
use Rattle.trec_formats.specs.declared.runs.run_reader.RunProgress.{RunProgress}
use Rattle.trec_formats.specs.declared.runs.run_reader.RunProgress.TheVariants.{Reads, Faulty, Failed}
use Rattle.trec_formats.specs.declared.faults.FormatFault.{FormatFault}
use Rattle.trec_formats.specs.RunFormat.Counts.{count_at, AreTopicCounts}
use Rattle.trec_formats.specs.Faults.{IsFirstFault}
use Rattle.trec_formats.specs.Lines.{Row, is_filled, is_line_feed, is_white_space, lines_of, rows_from, rows_of}
use Rattle.trec_formats.specs.RunFormat.PackedRuns.{kept_lines, ArePlaced}
use Rattle.trec_formats.specs.RunFormat.RunFields.{kept_field, kept_fields}
use Rattle.trec_formats.specs.RunFormat.Runs.{AreRunLines, line_count_on, run_of, within, IsRunFault}

-- a byte that ends a field
abbrev pub is_break : ℕ → Bool
is_break b = is_white_space b || is_line_feed b

-- a line of these fields, where it has one
abbrev pub row_if : ℕ → List (List ℕ) → List Row
row_if number fields = filter (λ row. is_filled row.1) ((number, fields) ∷ [])

-- the rows stand for the lines that ended, each of which is counted
pub record AreEnded (done : List Row) (ended : Ended) : Type 0 where
  pub good : AreRunLines done (kept_lines ended.run)
  pub counted : (topic : List ℕ) → count_at ended.counts topic ≡ line_count_on topic (kept_lines ended.run)

-- a row behind these is the first with a fault, whatever comes behind it
abbrev pub IsFaultBehind : List Row → List Row → FormatFault → Type 0
IsFaultBehind done rows fault = (after : List Row) → IsFirstFault AreRunLines (λ before row. within before (run_of row)) (done ++ rows ++ after) fault

-- The bytes of a line that isn't whole, with its ended fields and what is held of the present one.
pub record IsInHand (bytes : List ℕ) (line : KeptLine) (held : List ℕ) : Type 0 where
  pub front : List (List ℕ)
  pub present : List ℕ
  pub cut : slice_split is_white_space bytes ≡ front ++ present ∷ []
  pub one_line : list_all (λ b. not (is_line_feed b)) bytes ≡ true
  pub line_is : line ≡ kept_fields (filter is_filled front)
  pub held_is : held ≡ kept_field present

-- a text without a fault so far, which may go on
pub record IsGoing (text : List ℕ) (ended : Ended) (line : KeptLine) (held : List ℕ) : Type 0 where
  pub done : List Row
  pub bytes : List ℕ
  pub rows : (more : List ℕ) → rows_of (text ++ more) ≡ done ++ rows_from (ended.number + 1) (lines_of (bytes ++ more))
  pub whole : AreEnded done ended
  pub in_hand : IsInHand bytes line held

abbrev pub IsRunRead : List ℕ → RunReading → Type 0
IsRunRead text reading = IsGoing text reading.ended reading.line reading.held.items

-- the fault of a text, whatever comes behind it
abbrev pub IsFaulty : List ℕ → FormatFault → Type 0
IsFaulty text fault = (more : List ℕ) → IsRunFault (text ++ more) fault

-- no more is kept than there may be
pub record AreWithin (ended : Ended) : Type 0 where
  pub topics : length ended.counts.topics ≤ ended.number
  pub placed : ArePlaced ended.run.bytes.items ended.run.lines.items
  pub tally : AreTopicCounts ended.counts

pub record IsWithin (reading : RunReading) : Type 0 where
  pub ended : AreWithin reading.ended
  pub held : length reading.held.items ≤ 401

-- a reader may go on with so many bytes
abbrev pub ReaderHasRoom : RunProgress → ℕ → Type 0
ReaderHasRoom (Reads reading) more = IsWithin reading × (reading.ended.number + more ≤ 268435456)
ReaderHasRoom (Faulty fault) more = Unit {0}
ReaderHasRoom Failed more = Unit {0}

-- the progress of a reader that was fed this text
abbrev pub IsRunAt : List ℕ → RunProgress → Type 0
IsRunAt text (Reads reading) = IsRunRead text reading
IsRunAt text (Faulty fault) = IsFaulty text fault
IsRunAt text Failed = ⊥

-- what is kept of so many bytes
abbrev pub IsRunHeld : ℕ → RunProgress → Type 0
IsRunHeld fed (Reads reading) = IsWithin reading × (reading.ended.number ≤ fed) × ((text : List ℕ) × IsRunRead text reading)
IsRunHeld fed (Faulty fault) = Unit {0}
IsRunHeld fed Failed = Unit {0}

pub record IsSound (fed : ℕ) (progress : RunProgress) : Type 0 where
  pub few : fed ≤ 268435456
  pub held : IsRunHeld fed progress

-- how many bytes were fed to a reader, and what it keeps of them
pub record RunFed : Type 0 where
  pub fed : ℕ
  pub progress : RunProgress

-- the bytes that were fed may be this text
abbrev pub IsAfter : List ℕ → RunFed → Type 0
IsAfter text reader = IsRunAt text reader.progress

-- there was no memory for what had to be kept
abbrev pub HasRunFailed : RunFed → Type 0
HasRunFailed reader = reader.progress ≡ Failed

abbrev pub held_at : RunProgress → ℕ
held_at (Reads reading) = length reading.held.items
held_at (Faulty fault) = 0
held_at Failed = 0

-- how many bytes of the present field are kept
abbrev pub held_by : RunFed → ℕ
held_by reader = held_at reader.progress
