-- Payloads: the spelling of one entry, or the bundle of several.
use Rattle.std.specs.Prelude.{◌≡◌, ◌⊎◌, List, [], ◌∷◌}
use Rattle.rulebook.specs.declared.entry.EntryCore.{EntryCore}
use Rattle.rulebook.specs.Spelling.{IsSpelling}
use Rattle.rulebook.specs.Words.{Text}
use Rattle.record_codec.specs.Bundles.{IsBundle}

-- the bytes are the bundle of these entries, or the spelling of the one entry
abbrev pub IsPayload : Text → List EntryCore → Type 0
IsPayload bytes cores = IsBundle bytes cores ⊎ ((core : EntryCore) × IsSpelling bytes core × (cores ≡ core ∷ []))
