-- What contracts see of a pass, and what an act does to it.
use Rattle.std.specs.Prelude.{◌≡◌, ℕ, List, ◌++◌}
use Rattle.atomic_table.specs.Seated.{TableId}
use Rattle.hall.specs.declared.stories.Story.{Story}
use Rattle.hall.specs.Places.{added_place}
use Rattle.hall.specs.Stories.{AtMost, Grows}

-- which hall it is of, the state that was seen, and the places of the entries that were added by it
pub record Known (E : Type 0) : Type 0 where
  pub hall : TableId
  pub seen : Story E
  pub mine : List ℕ

module _ {E Ask Answer : Type 0} (tells : Story E → Ask → Answer → Story E → Type 0) where
  -- There is a state that was at most seen before, from which the answer leads to what is seen now. The place of the added entry is the caller's own.
  abbrev pub ActsOn : Story E → List ℕ → Ask → Answer → Story E → List ℕ → Type 0
  ActsOn seen mine ask answer seen' mine' =
      (b : Story E) × AtMost seen b × Grows b seen' × tells b ask answer seen' × (mine' ≡ mine ++ added_place b.list seen'.list)

  abbrev pub HallActs : Known E → Ask → Answer → Known E → Type 0
  HallActs p ask answer q = ActsOn p.seen p.mine ask answer q.seen q.mine
