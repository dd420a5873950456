-- The lines of a topics text, and what each of them does.
use Rattle.std.specs.Prelude.{ℕ, Bool, false, if◌then◌else◌, ◌&&◌, ◌||◌, nat_eq, List, [], ◌∷◌, length, drop, reverse, map, filter, bytes_eq, codes}
use Rattle.std.specs.List.{enumerate_from, starts_with}
use Rattle.decimal_rank.specs.Bytes.{exclamation_mark, question_mark, space, tilde}
use Rattle.trec_formats.specs.declared.topics.topic_lines.TopicField.{TopicField}
use Rattle.trec_formats.specs.declared.topics.topic_lines.TopicField.TheVariants.{Title, Desc, Narr}
use Rattle.trec_formats.specs.Lines.{is_white_space, is_filled, lines_of}
use Rattle.trec_formats.specs.Names.{is_between}

-- the bytes from the first on that is no white space
abbrev pub front_stripped : List ℕ → List ℕ
front_stripped [] = []
front_stripped (b ∷ bytes) = if is_white_space b then front_stripped bytes else b ∷ bytes

-- without the white space at the end
abbrev pub back_stripped : List ℕ → List ℕ
back_stripped text = reverse (front_stripped (reverse text))

-- without the white space at both ends
unfoldable pub without_space : List ℕ → List ℕ
without_space text = back_stripped (front_stripped text)

-- what a stripped line does
pub data LineKind : Type 0 where
  -- it begins a topic
  Opens : LineKind
  -- it ends a topic
  Closes : LineKind
  -- it begins the number, with this text
  Numbers : (text : List ℕ) → LineKind
  -- it begins another field, with this text
  Begins : (part : TopicField) → (text : List ℕ) → LineKind
  -- it begins a stretch that isn't looked at
  Skips : LineKind
  -- it goes on with what is before it
  Says : (text : List ℕ) → LineKind

abbrev pub begins_with : List ℕ → List ℕ → Bool
begins_with front text = starts_with nat_eq text front

-- the text behind a tag or a label that it begins with
abbrev pub behind_tag : List ℕ → List ℕ → List ℕ
behind_tag front text = without_space (drop (length front) text)

-- the text of a field, without the label that may stand in front of it
abbrev pub without_label : List ℕ → List ℕ → List ℕ
without_label label text = if begins_with label text then behind_tag label text else text

-- whether it begins with an ASCII letter
abbrev pub has_letter : List ℕ → Bool
has_letter [] = false
has_letter (b ∷ _) = is_between 65 90 b || is_between 97 122 b

-- whether a line begins with '<' and a letter, or with '</' and a letter
abbrev pub is_tag : List ℕ → Bool
is_tag line = (begins_with (codes "<") line && has_letter (drop 1 line)) || (begins_with (codes "</") line && has_letter (drop 2 line))

-- a line that is none of a topic's own tags
unfoldable pub other_kind : List ℕ → LineKind
other_kind line = if is_tag line then Skips else Says line

-- what a line does that neither begins nor ends a topic
unfoldable pub field_mark : List ℕ → LineKind
field_mark line =
    if begins_with (codes "<num>") line then Numbers (without_label (codes "Number:") (behind_tag (codes "<num>") line))
    else (if begins_with (codes "<title>") line then Begins Title (behind_tag (codes "<title>") line)
    else (if begins_with (codes "<desc>") line then Begins Desc (without_label (codes "Description:") (behind_tag (codes "<desc>") line))
    else (if begins_with (codes "<narr>") line then Begins Narr (without_label (codes "Narrative:") (behind_tag (codes "<narr>") line))
    else other_kind line)))

-- what a stripped line does
unfoldable pub mark_of : List ℕ → LineKind
mark_of line = if bytes_eq line (codes "<top>") then Opens else (if bytes_eq line (codes "</top>") then Closes else field_mark line)

-- a line that isn't white space alone: its number, and what it does
abbrev pub TopicLine : Type 0
TopicLine = ℕ × LineKind

-- these lines, of which the first has this number, as far as they aren't white space alone
unfoldable pub lines_from_number : ℕ → List (List ℕ) → List TopicLine
lines_from_number number lines = map (λ row. (row.0, mark_of row.1)) (filter (λ row. is_filled row.1) (enumerate_from number (map without_space lines)))

abbrev pub topic_lines : List ℕ → List TopicLine
topic_lines text = lines_from_number 1 (lines_of text)

-- a byte as it is kept: white space is a space, and what isn't visible ASCII is a question mark
abbrev pub shown_byte : ℕ → ℕ
shown_byte b = if is_white_space b then space else (if is_between exclamation_mark tilde b then b else question_mark)
