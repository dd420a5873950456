-- What the images of a disk hold: these entries, or these and one that is being added.
use Rattle.std.specs.Prelude.{◌≡◌, ◌⊎◌, ℕ, List, [], ◌∷◌, ◌++◌, Option, None, Some}
use Rattle.journal.specs.Format.{decode}
use Rattle.rulebook.specs.Campaign.{History}
use Rattle.rulebook.specs.declared.entry.Entry.{Entry}
use Rattle.rulebook.specs.Histories.Legal.{IsAccepted}
use Rattle.rulebook.specs.Histories.Stories.{StartsWith}
use Rattle.rulebook.specs.Words.{Text}
use Rattle.book.specs.Stories.{IsStory}

-- these entries are the story of the image's records
abbrev pub HoldsEntries : History → List ℕ → Type 0
HoldsEntries H image = (payloads : List Text) × (decode image ≡ Some payloads) × IsStory payloads H

-- of these entries, or of these and the one that is pending
abbrev pub HoldsWith : History → Option Entry → List ℕ → Type 0
HoldsWith H None image = HoldsEntries H image
HoldsWith H (Some e) image = HoldsEntries H image ⊎ HoldsEntries (H ++ e ∷ []) image

-- each image holds these entries, or these and the one that is pending
abbrev pub ImagesHold : (List ℕ → Type 0) → History → Option Entry → Type 0
ImagesHold images H pending = (image : List ℕ) → images image → HoldsWith H pending image

-- these entries, with the one that was pending or with the one that is added, never with both
abbrev pub HoldsOneOf : History → Option Entry → History → List ℕ → Type 0
HoldsOneOf H pending added image = HoldsWith H pending image ⊎ ((e : Entry) × (added ≡ e ∷ []) × HoldsEntries (H ++ e ∷ []) image)

-- A part of the later entries from their start, no shorter than the earlier ones; or it and one entry that the rules accept after it.
pub record IsBetween (earlier later : History) (image : List ℕ) : Type 0 where
  pub part : History
  pub no_shorter : StartsWith part earlier
  pub no_longer : StartsWith later part
  pub held : HoldsEntries part image ⊎ ((e : Entry) × IsAccepted part e × HoldsEntries (part ++ e ∷ []) image)
