-- The places of a list of documents, from 1.
use Rattle.std.specs.Prelude.{◌≡◌, ◌≢◌, ℕ, ◌+◌, ◌-◌, ◌<◌, ◌≤◌, ◌==◌, List, Option, length, take, slice_get, AllPairs, position}
use Rattle.std.specs.Int.Digits.{digits_of}
use Rattle.std.specs.Option.{option_map}
use Rattle.decimal_rank.specs.declared.naming.DocId.{DocId}

-- no document stands twice
abbrev pub AreDistinct : List DocId → Type 0
AreDistinct docs = AllPairs (λ d e. d ≢ e) docs

-- the place of a document
abbrev pub place_in : List DocId → DocId → Option ℕ
place_in docs doc = option_map (λ i. i + 1) (position (λ d. d.0 == doc.0) docs)

-- the document on the second line stands on the first too, and no line before the second repeats one
pub record IsFirstRepeat (docs : List DocId) (first second : ℕ) : Type 0 where
  pub from_one : 1 ≤ first
  pub later : first < second
  pub within : second ≤ length docs
  pub same : slice_get docs (first - 1) ≡ slice_get docs (second - 1)
  pub least : AreDistinct (take (second - 1) docs)

-- the number of binary digits, 0 for 0
unfoldable pub levels : ℕ → ℕ
levels n = length (digits_of 2 n)
