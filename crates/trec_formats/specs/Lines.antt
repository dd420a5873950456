-- A text as numbered lines of fields.
use Rattle.std.specs.Prelude.{◌==◌, ℕ, Bool, true, false, if◌then◌else◌, ◌||◌, List, [], ◌∷◌, map, filter}
use Rattle.std.specs.List.{slice_split, onto_first, enumerate_from}
use Rattle.decimal_rank.specs.Bytes.{carriage_return, form_feed, line_feed, space, tab, vertical_tab}

abbrev pub is_white_space : ℕ → Bool
is_white_space b = b == tab || b == vertical_tab || b == form_feed || b == carriage_return || b == space

abbrev pub is_line_feed : ℕ → Bool
is_line_feed b = b == line_feed

abbrev pub is_filled : {X : Type 0} → List X → Bool
is_filled [] = false
is_filled (_ ∷ _) = true

-- A text is cut at each line feed. A last part that isn't empty is a line too.
unfoldable pub lines_of : List ℕ → List (List ℕ)
lines_of [] = []
lines_of (b ∷ bytes) = if is_line_feed b then [] ∷ lines_of bytes else onto_first b (lines_of bytes)

-- the longest stretches of bytes that are no white space
unfoldable pub fields_of : List ℕ → List (List ℕ)
fields_of line = filter is_filled (slice_split is_white_space line)

-- a line's number, and its fields
abbrev pub Row : Type 0
Row = ℕ × List (List ℕ)

-- these lines, of which the first has this number, as far as they have a field
unfoldable pub rows_from : ℕ → List (List ℕ) → List Row
rows_from number lines = filter (λ row. is_filled row.1) (enumerate_from number (map fields_of lines))

-- the lines of a text that aren't white space alone
abbrev pub rows_of : List ℕ → List Row
rows_of text = rows_from 1 (lines_of text)
