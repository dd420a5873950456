-- How entries are packed into the payloads of a compacted journal, one after another.
use Rattle.std.specs.Prelude.{◌≡◌, ◌≤◌, ◌^◌, true, ℕ, List, ◌++◌, Vec, length}
use Rattle.std.specs.List.{All, list_all}
use Rattle.std.specs.declared.alloc.Global.{Global}
use Rattle.record_codec.specs.Bundles.{are_rising, is_packable, most_bundled}
use Rattle.rulebook.specs.declared.entry.EntryCore.{EntryCore}
use Rattle.rulebook.specs.Words.{Text}
use Rattle.book.specs.Compaction.Compactings.{packed_payloads}
use Rattle.book.specs.Opening.Replays.{AreFit}

-- none is longer than a record may be
abbrev pub AreShort : List (Vec ℕ Global) → Type 0
AreShort payloads = All (λ (payload : Vec ℕ Global). length payload.items ≤ 2 ^ 25) payloads

-- A part of a bundle that has begun, and the entries that are left: a bundle may have the part, those that are left
-- have spellings with room in a record, and no moment is less than the one before it.
pub record CanPack (part left : List EntryCore) : Type 0 where
  pub few : length part ≤ most_bundled
  pub packable : list_all is_packable part ≡ true
  pub fit : AreFit left
  pub rising : are_rising 0 (part ++ left) ≡ true

-- With other payloads and another part the entries that are left come to the same.
pub record PacksTo (done : List Text) (part left : List EntryCore) (done' : List Text) (part' left' : List EntryCore) : Type 0 where
  pub can : CanPack part' left'
  pub same : done' ++ packed_payloads part' left' ≡ done ++ packed_payloads part left
