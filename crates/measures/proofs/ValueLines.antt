-- The lines of names and their values, one after another.
use Rattle.std.proofs.Common.{◌≡◌, ◌∙◌, ◌+◌, ◌<◌, ◌≤◌, ◌++◌, ℕ, zero, suc, List, [], ◌∷◌, length, take, get_or, ap, arith, refl}
use Rattle.std.specs.Prelude.{flat_map, zip}
use Rattle.std.proofs.lemmas.List.{append-nil, take_all, take_more}
use Rattle.std.proofs.lemmas.List.Concat.{flat_map-append}
use Rattle.measures.specs.ScoreLines.{value_line, value_lines}

abbrev Row : Type 0
Row = List ℕ × ℕ

row_at : (names : List (List ℕ)) (values : List ℕ) (i : ℕ) (d : Row) → i < length names → length names ≡ length values
    → get_or (zip names values) i d ≡ (get_or names i [], get_or values i 0)
row_at [] values i d within same = absurd (omega (arith, within))
row_at (name ∷ names) [] i d within same = absurd (omega (arith, same))
row_at (name ∷ names) (value ∷ values) zero d within same = refl
row_at (name ∷ names) (value ∷ values) (suc i) d within same = row_at names values i d (omega (arith, within)) (omega (arith, same))

rows_long : (names : List (List ℕ)) (values : List ℕ) → length names ≡ length values → length (zip names values) ≡ length names
rows_long [] values same = refl
rows_long (name ∷ names) [] same = absurd (omega (arith, same))
rows_long (name ∷ names) (value ∷ values) same = ap suc (rows_long names values (omega (arith, same)))

-- the lines of the first names
abbrev pub lines_to : List ℕ → List ℕ → List (List ℕ) → List ℕ → ℕ → List ℕ
lines_to run topic names values place = flat_map (λ row. value_line run topic row.0 row.1) (take place (zip names values))

pub one_more_line : (run topic : List ℕ) (names : List (List ℕ)) (values : List ℕ) (place : ℕ) → length names ≡ length values → place < length names
    → lines_to run topic names values (place + 1)
    ≡ lines_to run topic names values place ++ value_line run topic (get_or names place []) (get_or values place 0)
one_more_line run topic names values place same within =
    let line : Row → List ℕ = λ row. value_line run topic row.0 row.1 in
    let rows = zip names values in
    let d : Row = ([], 0) in
    let inside : place < length rows = omega (arith, rows_long names values same, within) in
    ap (flat_map line) (take_more rows place d inside)
    ∙ flat_map-append line (take place rows) (get_or rows place d ∷ [])
    ∙ ap (λ l. lines_to run topic names values place ++ l) (append-nil (line (get_or rows place d)) ∙ ap line (row_at names values place d within same))

pub all_lines : (run topic : List ℕ) (names : List (List ℕ)) (values : List ℕ) (place : ℕ) → length names ≡ length values → length names ≤ place
    → lines_to run topic names values place ≡ value_lines run topic names values
all_lines run topic names values place same past =
    ap (flat_map (λ row. value_line run topic row.0 row.1)) (take_all place (zip names values) (omega (arith, rows_long names values same, past)))
