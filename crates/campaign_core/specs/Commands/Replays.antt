-- How entries are entered again.
use Rattle.std.specs.Prelude.{◌≡◌, ◌<◌, Bool, true, false, None, [], ◌∷◌, ◌++◌, length}
use Rattle.rulebook.specs.declared.ask.Ask.TheVariants.{Act}
use Rattle.rulebook.specs.declared.entry.Entry.{Entry}
use Rattle.rulebook.specs.declared.entry.EntryCore.{EntryCore}
use Rattle.rulebook.specs.declared.limits.TheConstants.{MAX_ENTRIES}
use Rattle.rulebook.specs.Answers.{answer, moment_after}
use Rattle.rulebook.specs.Campaign.{History}
use Rattle.rulebook.specs.Requests.Numbers.{entry_of_number}

-- what the rules add for an entry's own request
abbrev pub added_again : History → EntryCore → History
added_again H core = (answer H core.caller core.number (Act core.command) core.moment).added

-- the core's request adds no entry at its own moment
abbrev pub AddsNone : History → EntryCore → Type 0
AddsNone H core = (e : Entry) → added_again H core ≡ e ∷ [] → e.core.moment ≡ core.moment → ⊥

-- an entry was added that the core's request adds at its own moment, or it adds none
abbrev pub EntersCore : History → EntryCore → Bool → History → Type 0
EntersCore H core true after = (e : Entry) × (added_again H core ≡ e ∷ []) × (e.core.moment ≡ core.moment) × (after ≡ H ++ e ∷ [])
EntersCore H core false after = (after ≡ H) × AddsNone H core

-- the caller didn't use the number before, the history isn't full, and the core isn't earlier than the last entry
pub record MayFollow (H : History) (core : EntryCore) : Type 0 where
  pub unused : entry_of_number H core.caller.name core.number ≡ None
  pub entries_fit : length H < MAX_ENTRIES
  pub latest : moment_after H core.moment ≡ core.moment

-- an entry of this core may come next, or none is added for it
abbrev pub IsNext : History → EntryCore → Bool → Type 0
IsNext H core true = MayFollow H core
IsNext H core false = AddsNone H core
