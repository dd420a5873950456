-- A run through the releases of an archive.
use Rattle.std.specs.Prelude.{List, [], ◌∷◌, find, bytes_eq}
use Rattle.std.specs.List.{flat_map}
use Rattle.std.specs.Option.{option_map_or}
use Rattle.rulebook.specs.Words.{Text}
use Rattle.release_archive.specs.declared.kept.Kept.{Kept}
use Rattle.archive_reports.specs.Orders.{by_name}
use Rattle.archive_reports.specs.declared.histories.HistoryRow.{HistoryRow}

-- the row of a run in a release that has it
abbrev pub history_row : Text → Kept → List HistoryRow
history_row run kept =
    option_map_or (λ system. record { name = kept.name; topics = system.summary.topics; map = system.summary.map } ∷ [])
    (find (λ system. bytes_eq run system.run) kept.systems) []

-- its rows, by the releases' names
abbrev pub history_of : Text → List Kept → List HistoryRow
history_of run all = flat_map (history_row run) (by_name all)
