-- Which documents a filter admits.
use Rattle.std.specs.Prelude.{◌≡◌, ◌%◌, ℕ, Bool, true, false, List, All, slice_index_or}
use Rattle.decimal_rank.specs.declared.naming.DocId.{DocId}

-- the bits of a filter, of which a document has one of the first so many
pub record Bits : Type 0 where
  pub count : ℕ
  pub on : List Bool

-- whether the bit of a document is on, which it shares with those whose numbers leave the same remainder
abbrev pub admits : Bits → DocId → Bool
admits bits doc = slice_index_or bits.on (doc.0 % bits.count) false

-- each of these documents is admitted, so that one that isn't is none of them
abbrev pub AdmitsAll : Bits → List DocId → Type 0
AdmitsAll bits docs = All (λ doc. admits bits doc ≡ true) docs
