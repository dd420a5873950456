-- What is written is read back.
use Rattle.std.proofs.Common.{◌≡◌, ℕ, ◌++◌, ◌∷◌, [], List, map, refl, sym}
use Rattle.csv.specs.Machine.{next_record}
use Rattle.csv.specs.Reading.{Reached, default_config, strip_bom}
use Rattle.csv.specs.Writing.{read_back}
use Rattle.csv.specs.declared.parser.State.TheVariants as st
use Rattle.csv.proofs.RoundTrip.{read-write}
use Rattle.rulebook.specs.declared.systems.System.{System}
use Rattle.release_archive.specs.declared.kept.Kept.{Kept}
use Rattle.std.specs.List.{flat_map}
use Rattle.archive_reports.specs.Exports.{CsvRecord, ReadsAs, csv_text, release_rows, rows_in, system_row}

-- each record has a field
Filled : List CsvRecord → Type 0
Filled [] = Unit {0}
Filled (row ∷ rows) = (read_back row ≡ row) × Filled rows

reached : (rows : List CsvRecord) → Filled rows → Reached default_config st.StartRecord (csv_text rows) rows st.StartRecord []
unfolding Reached Filled
reached [] filled = (refl, refl)
reached (row ∷ rows) filled =
    ((read_back row, st.StartRecord, csv_text rows), read-write row (csv_text rows), sym filled.0, reached rows filled.1)

filled-systems : (name : List ℕ) (systems : List System) (rows : List CsvRecord) → Filled rows → Filled (map (system_row name) systems ++ rows)
unfolding Filled
filled-systems name [] rows filled = filled
filled-systems name (system ∷ systems) rows filled = (refl, filled-systems name systems rows filled)

filled-releases : (releases : List Kept) → Filled (flat_map release_rows releases)
unfolding Filled
filled-releases [] = tt
filled-releases (kept ∷ releases) = filled-systems kept.name kept.systems (flat_map release_rows releases) (filled-releases releases)

pub reads-back : (releases : List Kept) → ReadsAs (csv_text (rows_in releases)) (rows_in releases)
unfolding Filled next_record strip_bom
reads-back releases = (st.StartRecord, [], reached (rows_in releases) (refl, filled-releases releases), refl)
