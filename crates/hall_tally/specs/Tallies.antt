-- What a list of notes tells a hall.
use Rattle.std.specs.Prelude.{◌≡◌, ℕ, List, [], ◌∷◌, ◌++◌, length}
use Rattle.hall.specs.declared.stories.Story.{Story}
use Rattle.hall_tally.specs.declared.tallies.Note.{Note}
use Rattle.hall_tally.specs.declared.tallies.Asked.{Asked}
use Rattle.hall_tally.specs.declared.tallies.Asked.TheVariants.{Write, Count}
use Rattle.hall_tally.specs.declared.tallies.Told.{Told}
use Rattle.hall_tally.specs.declared.tallies.Told.TheVariants.{At, Counted, Memory}

-- a list that no fault touches
abbrev pub story_of_notes : List Note → Story Note
story_of_notes notes = record { list = notes; faults = 0; opening = 0 }

-- A note is written last, at its place from 1, or not at all for want of memory. A count is that of the notes, and adds none.
abbrev pub Tells : Story Note → Asked → Told → Story Note → Type 0
Tells before (Write note) (At place) after = (after.list ≡ before.list ++ note ∷ []) × (place ≡ length after.list)
Tells before (Write note) (Counted notes) after = ⊥
Tells before (Write note) Memory after = after.list ≡ before.list
Tells before Count (At place) after = ⊥
Tells before Count (Counted notes) after = (after.list ≡ before.list) × (notes ≡ length after.list)
Tells before Count Memory after = ⊥
