-- Records that are written one after another.
use Rattle.std.proofs.Common.{◌≡◌, ℕ, ◌+◌, ◌<◌, ◌++◌, ◌∷◌, [], List, Some, length, map, take, get_or, sym, ap, ◌∙◌, append_assoc}
use Rattle.std.specs.List.{flat_map}
use Rattle.std.proofs.lemmas.List.{append-nil, take_more}
use Rattle.std.proofs.lemmas.List.Concat.{flat_map-append}
use Rattle.std.proofs.lemmas.List.{map-append}
use Rattle.csv.specs.Writing.{default_writer, row_text}
use Rattle.csv.specs.declared.writer.Writer.{Writer}
use Rattle.std.specs.declared.alloc.Global.{Global}
use Rattle.std.specs.declared.vec.Vec.{Vec}
use Rattle.rulebook.specs.declared.systems.System.{System}
use Rattle.release_archive.specs.declared.kept.Kept.{Kept}
use denote.Ref.{Bor}
use Rattle.archive_reports.specs.Orders.{releases_behind}
use Rattle.archive_reports.specs.Exports.{CsvRecord, IsBetweenRecords, Writes, csv_header, csv_text, release_rows, rows_in, system_row}

-- nothing is written yet
pub writes-none : (w : Writer (Vec ℕ Global)) → IsBetweenRecords w → Writes w w []
writes-none w between = record { between = between; bytes = λ before is. is ∙ ap Some (sym (append-nil before)) }

-- one text and then another
pub writes-on : (a b c : Writer (Vec ℕ Global)) (first second : List ℕ) → Writes a b first → Writes b c second → Writes a c (first ++ second)
writes-on a b c first second w v = record {
  between = v.between;
  bytes = λ before is. v.bytes (before ++ first) (w.bytes before is) ∙ ap Some (append_assoc before first second);
}

csv-more : (rows : List CsvRecord) (row : CsvRecord) → csv_text (rows ++ row ∷ []) ≡ csv_text rows ++ csv_text (row ∷ [])
csv-more rows row = flat_map-append (row_text default_writer) rows (row ∷ [])

pub one-system : (name : List ℕ) (systems : List System) (i : ℕ) (d : System) → i < length systems
    → csv_text (map (system_row name) (take (i + 1) systems))
    ≡ csv_text (map (system_row name) (take i systems)) ++ csv_text (system_row name (get_or systems i d) ∷ [])
one-system name systems i d within =
    ap (λ (some : List System). csv_text (map (system_row name) some)) (take_more systems i d within)
    ∙ ap csv_text (map-append (system_row name) (take i systems) (get_or systems i d ∷ []))
    ∙ csv-more (map (system_row name) (take i systems)) (system_row name (get_or systems i d))

pub one-release : (releases : List (Bor Kept)) (i : ℕ) (d : Bor Kept) → i < length releases
    → csv_text (rows_in (releases_behind (take (i + 1) releases)))
    ≡ csv_text (rows_in (releases_behind (take i releases))) ++ csv_text (release_rows (get_or releases i d).now)
one-release releases i d within =
    let before : List Kept = releases_behind (take i releases) in
    let one : Kept = (get_or releases i d).now in
    let more : releases_behind (take (i + 1) releases) ≡ before ++ one ∷ [] =
    ap releases_behind (take_more releases i d within) ∙ map-append (λ (kept : Bor Kept). kept.now) (take i releases) (get_or releases i d ∷ []) in
    ap (λ (some : List Kept). csv_text (rows_in some)) more
    ∙ ap (λ rows. csv_text (csv_header ∷ rows))
    (flat_map-append release_rows before (one ∷ []) ∙ ap (λ rows. flat_map release_rows before ++ rows) (append-nil (release_rows one)))
    ∙ flat_map-append (row_text default_writer) (csv_header ∷ flat_map release_rows before) (release_rows one)
