-- How records become entries, one after another.
use Rattle.std.specs.Prelude.{◌≡◌, ◌⊎◌, ◌≤◌, Bool, true, false, IsTrue, List, [], ◌∷◌, ◌++◌, Result, Ok, Err, length}
use Rattle.std.specs.Str.{bytes_eq}
use Rattle.campaign_core.specs.StateViews.{StateView}
use Rattle.record_codec.specs.Payloads.{IsPayload}
use Rattle.rulebook.specs.declared.entry.EntryCore.{EntryCore}
use Rattle.rulebook.specs.declared.rules.Rules.{Rules}
use Rattle.rulebook.specs.Campaign.{History}
use Rattle.rulebook.specs.Histories.Legal.{founding}
use Rattle.rulebook.specs.Requests.Limits.{max_entry_bytes}
use Rattle.rulebook.specs.Spelling.{are_rules, entry_bytes, has_spelling}
use Rattle.rulebook.specs.Words.{Text}
use Rattle.book.specs.declared.faults.BookFault.{BookFault}
use Rattle.book.specs.declared.faults.BookFault.TheVariants as fault
use Rattle.book.specs.Opening.Openings.{DiffersFrom, OpensWith}
use Rattle.book.specs.Stories.{BreaksAt, HasHistory, Unfolds, cores_of}

-- cores that have spellings, none of which is too long
abbrev pub AreFit : List EntryCore → Type 0
AreFit [] = Unit {0}
AreFit (core ∷ cores) = IsTrue (has_spelling core) × (length (entry_bytes core) ≤ max_entry_bytes) × AreFit cores

-- an entry of this core was added; or none can follow these, and none was added
abbrev pub Enters : History → EntryCore → Bool → History → Type 0
Enters H core true after = cores_of after ≡ cores_of H ++ core ∷ []
Enters H core false after = (after ≡ H) × (HasHistory (cores_of H ++ core ∷ []) → ⊥)

-- The entries of cores were added up to one that can't follow them.
pub record StopsIn (H : History) (cores : List EntryCore) (after : History) : Type 0 where
  pub front : List EntryCore
  pub core : EntryCore
  pub rest : List EntryCore
  pub split : cores ≡ front ++ core ∷ rest
  pub added : cores_of after ≡ cores_of H ++ front
  pub none : HasHistory (cores_of after ++ core ∷ []) → ⊥

-- the entries of all cores were added, or not of all
abbrev pub EntersCores : History → List EntryCore → Bool → History → Type 0
EntersCores H cores true after = cores_of after ≡ cores_of H ++ cores
EntersCores H cores false after = StopsIn H cores after

-- behind these entries the payload goes on with one that can't follow them, the first ones that it spells being among them; or it spells none
abbrev pub Breaks : History → Text → List EntryCore → Type 0
Breaks after payload front =
    (((cores : List EntryCore) → IsPayload payload cores → ⊥) × (front ≡ []))
    ⊎ ((core : EntryCore) × (rest : List EntryCore) × IsPayload payload (front ++ core ∷ rest) × (HasHistory (cores_of after ++ core ∷ []) → ⊥))

-- the entries that a payload spells were added, or not all of them
abbrev pub EntersPayload : History → Text → Bool → History → Type 0
EntersPayload H payload true after = (cores : List EntryCore) × IsPayload payload cores × (cores_of after ≡ cores_of H ++ cores)
EntersPayload H payload false after = (front : List EntryCore) × (cores_of after ≡ cores_of H ++ front) × Breaks after payload front

-- the entries went on with those of the payloads
abbrev pub GoesOnWithRecords : History → List Text → History → Type 0
GoesOnWithRecords H payloads after = (cores : List EntryCore) × Unfolds payloads cores × (cores_of after ≡ cores_of H ++ cores)

-- The entries went on with those of the payloads up to one that can't follow, or up to a payload that spells none.
pub record BreaksOff (H : History) (payloads : List Text) (after : History) : Type 0 where
  pub before : List Text
  pub payload : Text
  pub later : List Text
  pub split : payloads ≡ before ++ payload ∷ later
  pub given : List EntryCore
  pub unfolds : Unfolds before given
  pub front : List EntryCore
  pub added : cores_of after ≡ cores_of H ++ (given ++ front)
  pub breaks : Breaks after payload front

-- all payloads were entered, or not all
abbrev pub EntersAll : History → List Text → Bool → History → Type 0
EntersAll H payloads true after = GoesOnWithRecords H payloads after
EntersAll H payloads false after = BreaksOff H payloads after

-- the record is that of a founding entry, which stands alone
abbrev pub IsFoundingRecord : Text → History → Type 0
IsFoundingRecord first H = (rules : Rules) × IsTrue (are_rules rules) × (first ≡ entry_bytes (founding rules).core) × (H ≡ founding rules ∷ [])

-- the record founds no campaign
abbrev pub NeverBegins : Text → Type 0
NeverBegins first = (others : List Text) → BreaksAt (first ∷ others) 1

-- the record is that of a founding entry, and these say whether it is that of the rules
abbrev pub HasBegun : Rules → Text → History × Bool → Type 0
HasBegun rules first begun = IsFoundingRecord first begun.0 × (begun.1 ≡ bytes_eq first (entry_bytes (founding rules).core))

-- Why records aren't a campaign's: their least part without a story, or the rules of their story.
abbrev pub Stops : Rules → List Text → BookFault → Type 0
Stops rules payloads fault.Disk = ⊥
Stops rules payloads fault.Header = ⊥
Stops rules payloads (fault.Damaged entry) = BreaksAt payloads entry
Stops rules payloads fault.RulesDiffer = DiffersFrom rules payloads
Stops rules payloads fault.Memory = Unit {0}

-- the entries that the records stand for, or why there are none
abbrev pub Replays : Rules → List Text → Result History BookFault → Type 0
Replays rules payloads (Ok H) = OpensWith rules payloads H
Replays rules payloads (Err why) = Stops rules payloads why

-- the campaign of these entries, or why there is none
abbrev pub Restores : Rules → List Text → Result StateView BookFault → Type 0
Restores rules payloads (Ok state) = OpensWith rules payloads state.history
Restores rules payloads (Err why) = Stops rules payloads why
