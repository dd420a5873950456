-- The text of a field, line by line.
use Rattle.std.specs.Prelude.{ℕ, List, [], ◌∷◌, ◌++◌, map}
use Rattle.decimal_rank.specs.Bytes.{space}
use Rattle.trec_formats.specs.TopicsFormat.TopicLines.{shown_byte}

-- a kept text with one more text behind it
abbrev pub with_more_text : List ℕ → List ℕ → List ℕ
with_more_text kept [] = kept
with_more_text [] (b ∷ text) = map shown_byte (b ∷ text)
with_more_text (k ∷ kept) (b ∷ text) = (k ∷ kept) ++ space ∷ map shown_byte (b ∷ text)
