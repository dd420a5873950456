-- The list of entries that payloads stand for: their story.
use Rattle.std.specs.Prelude.{◌≡◌, ◌⊎◌, ℕ, ◌+◌, List, [], ◌∷◌, ◌++◌, length, map, take}
use Rattle.record_codec.specs.Payloads.{IsPayload}
use Rattle.rulebook.specs.declared.entry.EntryCore.{EntryCore}
use Rattle.rulebook.specs.Campaign.{History}
use Rattle.rulebook.specs.Histories.Legal.{IsLegal}
use Rattle.rulebook.specs.Spelling.{entry_bytes}
use Rattle.rulebook.specs.Words.{Text}

-- the entries without their replies
abbrev pub cores_of : History → List EntryCore
cores_of H = map (λ e. e.core) H

-- the spellings of the entries, in their order
abbrev pub spellings : History → List Text
spellings H = map (λ e. entry_bytes e.core) H

-- these are the entries of a list that can come about, without their replies; no cores are those of no entries
abbrev pub AreCores : List EntryCore → History → Type 0
AreCores [] H = H ≡ []
AreCores (first ∷ others) H = IsLegal H × (cores_of H ≡ first ∷ others)

abbrev pub HasHistory : List EntryCore → Type 0
HasHistory cores = (H : History) × AreCores cores H

-- what the payloads unfold to: the entries of each, one payload's behind another's
abbrev pub Unfolds : List Text → List EntryCore → Type 0
Unfolds [] cores = cores ≡ []
Unfolds (payload ∷ payloads) cores =
    (these : List EntryCore) × (others : List EntryCore) × IsPayload payload these × Unfolds payloads others × (cores ≡ these ++ others)

-- the entries are the story of the payloads: they can come about, and they are what the payloads unfold to
abbrev pub IsStory : List Text → History → Type 0
IsStory payloads H = (cores : List EntryCore) × Unfolds payloads cores × AreCores cores H

abbrev pub HasStory : List Text → Type 0
HasStory payloads = (H : History) × IsStory payloads H

-- these entries are the story of the payloads, and no others are
abbrev pub IsOnlyStory : List Text → History → Type 0
IsOnlyStory payloads H = IsStory payloads H × ((other : History) → IsStory payloads other → other ≡ H)

-- the payload spells no entries; or these are the first ones of those that it spells, and there are more
abbrev pub BeginsWithCores : Text → List EntryCore → Type 0
BeginsWithCores payload front =
    (((cores : List EntryCore) → IsPayload payload cores → ⊥) × (front ≡ []))
    ⊎ ((core : EntryCore) × (rest : List EntryCore) × IsPayload payload (front ++ core ∷ rest))

-- So many of the unfolded entries have no story, and those before the last of them have one: those of the earlier
-- payloads, and the first ones of the next. A payload that spells no entries counts as one.
pub record BreaksAt (payloads : List Text) (entry : ℕ) : Type 0 where
  pub before : List Text
  pub payload : Text
  pub later : List Text
  pub split : payloads ≡ before ++ payload ∷ later
  pub given : List EntryCore
  pub unfolds : Unfolds before given
  pub front : List EntryCore
  pub begins : BeginsWithCores payload front
  pub stands : HasHistory (given ++ front)
  pub entry_is : entry ≡ length (given ++ front) + 1
  pub none : (cores : List EntryCore) → Unfolds (before ++ payload ∷ []) cores → HasHistory (take entry cores) → ⊥
