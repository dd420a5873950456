-- The maps of a run's history, of sound releases, are means.
use Rattle.std.proofs.Common.{◌≡◌, ◌∙◌, ◌&&◌, ℕ, Bool, true, false, List, [], ◌∷◌, length, refl}
use Rattle.std.specs.Prelude.{find, fold, bytes_eq, nat_le}
use Rattle.std.specs.List.{flat_map, list_all, position_or_len}
use Rattle.std.specs.Option.{option_map_or}
use Rattle.std.proofs.lemmas.Bool.{and_parts, and_from}
use Rattle.std.proofs.lemmas.List.Folds.{list_all-append}
use Rattle.decimal_rank.proofs.Lists.{all_inserted}
use Rattle.archive_reports.specs.declared.histories.HistoryRow.{HistoryRow}
use Rattle.archive_reports.specs.Histories.{history_of, history_row}
use Rattle.archive_reports.specs.Orders.{by_name, is_before, with_kept}
use Rattle.release_archive.specs.declared.kept.Kept.{Kept}
use Rattle.release_archive.specs.Releases.{is_sound}
use Rattle.rulebook.specs.Requests.Limits.{max_runs}
use Rattle.rulebook.specs.declared.systems.System.{System}
use Rattle.rulebook.specs.Spelling.{differ}
use Rattle.rulebook.specs.Reports.Systems.{are_means, are_sound_systems, is_mean, is_sound_system, runs_of}
use Rattle.trec_formats.specs.Names.{is_name}

sorted_all : (more sorted : List Kept) → list_all is_sound more ≡ true → list_all is_sound sorted ≡ true → list_all is_sound (fold with_kept sorted more) ≡ true
sorted_all [] sorted all here = here
sorted_all (kept ∷ more) sorted all here =
    let parts = and_parts (is_sound kept) (list_all is_sound more) all in
    sorted_all more (with_kept sorted kept) parts.1
    (all_inserted is_sound sorted (position_or_len (λ other. is_before kept.name other.name) sorted) kept here parts.0)

abbrev pub has_mean : HistoryRow → Bool
has_mean row = is_mean row.map

-- the map of a sound system is a mean
system_mean : (system : System) → is_sound_system system ≡ true → is_mean system.summary.map ≡ true
system_mean system sound =
    let s = system.summary in
    let means = (and_parts (is_name system.run && is_name system.group) (are_means s) sound).1 in
    let four = (and_parts (is_mean s.map && is_mean s.r_prec && is_mean s.bpref && is_mean s.recip) (list_all is_mean s.at) means).0 in
    let three = (and_parts (is_mean s.map && is_mean s.r_prec && is_mean s.bpref) (is_mean s.recip) four).0 in
    let two = (and_parts (is_mean s.map && is_mean s.r_prec) (is_mean s.bpref) three).0 in
    (and_parts (is_mean s.map) (is_mean s.r_prec) two).0

-- so is that of a run's row
found_mean : (name run : List ℕ) (systems : List System) → list_all is_sound_system systems ≡ true
    → list_all has_mean (option_map_or (λ system. record { name = name; topics = system.summary.topics; map = system.summary.map } ∷ [])
    (find (λ system. bytes_eq run system.run) systems) []) ≡ true
found_mean name run [] all = refl
found_mean name run (system ∷ others) all =
    let parts = and_parts (is_sound_system system) (list_all is_sound_system others) all in
    by (bytes_eq run system.run) refl parts.0 (found_mean name run others parts.1)
  where
    by : (t : Bool) → bytes_eq run system.run ≡ t → is_sound_system system ≡ true
        → list_all has_mean (option_map_or (λ system. record { name = name; topics = system.summary.topics; map = system.summary.map } ∷ [])
        (find (λ system. bytes_eq run system.run) others) []) ≡ true
        → list_all has_mean (option_map_or (λ system. record { name = name; topics = system.summary.topics; map = system.summary.map } ∷ [])
        (find (λ system. bytes_eq run system.run) (system ∷ others)) []) ≡ true
    by true e sound later = rw e (and_from (is_mean system.summary.map) true (system_mean system sound) refl)
    by false e sound later = rw e later

row_mean : (run : List ℕ) (kept : Kept) → is_sound kept ≡ true → list_all has_mean (history_row run kept) ≡ true
row_mean run kept sound =
    let systems = (and_parts (is_name kept.name) (are_sound_systems kept.systems) sound).1 in
    let few = (and_parts (nat_le (length kept.systems) max_runs && list_all is_sound_system kept.systems) (differ (runs_of kept.systems)) systems).0 in
    found_mean kept.name run kept.systems (and_parts (nat_le (length kept.systems) max_runs) (list_all is_sound_system kept.systems) few).1

rows_mean : (run : List ℕ) (releases : List Kept) → list_all is_sound releases ≡ true → list_all has_mean (flat_map (history_row run) releases) ≡ true
rows_mean run [] all = refl
rows_mean run (kept ∷ others) all =
    let parts = and_parts (is_sound kept) (list_all is_sound others) all in
    list_all-append has_mean (history_row run kept) (flat_map (history_row run) others)
    ∙ and_from (list_all has_mean (history_row run kept)) (list_all has_mean (flat_map (history_row run) others))
    (row_mean run kept parts.0) (rows_mean run others parts.1)

pub history_means : (run : List ℕ) (all : List Kept) → list_all is_sound all ≡ true → list_all has_mean (history_of run all) ≡ true
history_means run all sound = rows_mean run (by_name all) (sorted_all all [] sound refl)
