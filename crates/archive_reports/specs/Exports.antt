-- The releases of an archive as CSV.
use Rattle.std.specs.Prelude.{◌≡◌, ℕ, ◌++◌, List, [], ◌∷◌, Option, Some, false, codes, decimal, map}
use Rattle.std.specs.List.{flat_map}
use Rattle.std.specs.declared.alloc.Global.{Global}
use Rattle.std.specs.declared.vec.Vec.{Vec}
use Rattle.csv.specs.Writing.{default_writer, fields_written, has_written, row_text, text_written, writer_setup}
use Rattle.csv.specs.Reading.{AreRecords, default_config, strip_bom}
use Rattle.csv.specs.declared.parser.State.TheVariants as st
use Rattle.csv.specs.declared.writer.Writer.{Writer}
use Rattle.measures.specs.ScoreLines.{four_decimals}
use Rattle.rulebook.specs.Words.{Text}
use Rattle.rulebook.specs.declared.systems.System.{System}
use Rattle.release_archive.specs.declared.kept.Kept.{Kept}
use Rattle.archive_reports.specs.Orders.{by_name}

-- a record by its fields
abbrev pub CsvRecord : Type 0
CsvRecord = List Text

abbrev pub csv_header : CsvRecord
csv_header = codes "campaign" ∷ codes "run" ∷ codes "group" ∷ codes "topics" ∷ codes "map" ∷ []

abbrev pub system_row : Text → System → CsvRecord
system_row name system = name ∷ system.run ∷ system.group ∷ decimal system.summary.topics ∷ four_decimals system.summary.map ∷ []

abbrev pub release_rows : Kept → List CsvRecord
release_rows kept = map (system_row kept.name) kept.systems

-- the names of the fields, and the systems of each of these releases
abbrev pub rows_in : List Kept → List CsvRecord
rows_in releases = csv_header ∷ flat_map release_rows releases

-- those of an archive, by name
abbrev pub csv_records : List Kept → List CsvRecord
csv_records all = rows_in (by_name all)

-- the text of records
abbrev pub csv_text : List CsvRecord → Text
csv_text rows = flat_map (row_text default_writer) rows

-- the bytes that a writer over bytes has written
abbrev pub written_bytes : Vec ℕ Global → Option (List ℕ)
written_bytes out = Some out.items

-- a writer of the crate's defaults stands between two records
pub record IsBetweenRecords (writer : Writer (Vec ℕ Global)) : Type 0 where
  pub setup : writer_setup writer ≡ default_writer
  pub fields : fields_written writer ≡ 0
  pub wrote : has_written writer ≡ false

-- and writes this text on
pub record Writes (old new : Writer (Vec ℕ Global)) (text : Text) : Type 0 where
  pub between : IsBetweenRecords new
  pub bytes : (before : Text) → text_written written_bytes old ≡ Some before → text_written written_bytes new ≡ Some (before ++ text)

-- a reader with the crate's defaults and no header row reads these records of the text, and no more
abbrev pub ReadsAs : Text → List CsvRecord → Type 0
ReadsAs text rows = AreRecords default_config st.StartRecord (strip_bom text) rows
