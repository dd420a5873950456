-- The rule of a hall, which each step keeps. Word 0 is 0 while the turn is free, 1 while a seat has it, and 2 once a
-- seat has it for good. Word 1 is the number of entries. The slot has the value while the turn is free.
use Rattle.std.specs.Prelude.{◌≡◌, ◌≢◌, ℕ, ◌≤◌, List, [], ◌∷◌, ◌++◌, length, slice_index, Option as Maybe, Some}
use Rattle.std.specs.List.{Contains}
use mathlib.Core.Option.{some}
use lib.ListN.{get_elem?}
use Rattle.atomic_table.specs.Table.{Me, State, Step}
use Rattle.hall.specs.declared.stories.Stage.{Stage}
use Rattle.hall.specs.declared.stories.Stage.TheVariants.{Idle, Took, Counted, Ended, Met, Spent}
use Rattle.hall.specs.declared.stories.Story.{Story}
use Rattle.hall.specs.declared.stories.StoryView.{StoryView}
use Rattle.hall.specs.Places.{Apart, added_place, places_merged}
use Rattle.hall.specs.Stories.{AreComparable, AtMost, joined_story}

module _ {E : Type 0} where
  abbrev pub viewed : Stage E → Story E → List ℕ → StoryView E
  viewed stage seen mine = record { stage = stage; seen = seen; mine = mine }

  -- the view of a seat that hasn't the turn
  abbrev pub idle : Story E → List ℕ → StoryView E
  idle = viewed Idle

  abbrev pub empty_story : Story E
  empty_story = record { list = []; faults = 0; opening = 0 }

  abbrev pub spent : StoryView E
  spent = viewed Spent empty_story []

  -- What a seat knows of the lock word, of the holder of the turn, of the greatest state that was seen, the top, and of its own number.
  abbrev pub Knows : ℕ → ℕ → Story E → ℕ → Stage E → Story E → Type 0
  Knows lock holder top j Idle seen = AtMost seen top
  Knows lock holder top j (Took base) seen = (lock ≡ 1) × (j ≡ holder) × (base ≡ top) × AtMost seen top
  Knows lock holder top j Counted seen = (lock ≡ 1) × (j ≡ holder) × (seen ≡ top)
  Knows lock holder top j Ended seen = (lock ≡ 2) × AtMost seen top
  Knows lock holder top j (Met a b xs ys) seen = AtMost a top × AtMost b top × Apart xs ys × AtMost seen top
  Knows lock holder top j Spent seen = seen.list ≡ []

  -- it has the turn
  abbrev pub IsTurn : Stage E → Type 0
  IsTurn (Took base) = Unit {0}
  IsTurn Counted = Unit {0}
  IsTurn Idle = ⊥
  IsTurn Ended = ⊥
  IsTurn (Met a b xs ys) = ⊥
  IsTurn Spent = ⊥

  -- a new seat has seen as much, and has no places
  abbrev pub cut_view : StoryView E → StoryView E
  cut_view v = idle v.seen []

  -- the longer list, the greater count and the places of both
  abbrev pub both : StoryView E → StoryView E → StoryView E
  both v w = viewed (Met v.seen w.seen v.mine w.mine) (joined_story v.seen w.seen) (places_merged v.mine w.mine)

module _ {B E : Type 0} (story : B → Story E) where
  pub record KeepsRule (s : State (Maybe B) (StoryView E)) : Type 0 where
    -- the greatest state that was seen, and the seat that has the turn where one has it
    pub top : Story E
    pub holder : ℕ
    pub two : length s.words ≡ 2
    pub counted : slice_index s.words 1 ≡ length top.list
    pub at_home : slice_index s.words 0 ≢ 1 → (value : B) × (get_elem? s.homes 0 ≡ some (some (Some value))) × (story value ≡ top)
    pub held : slice_index s.words 0 ≡ 1 → (v : StoryView E) × (get_elem? s.views holder ≡ some v) × IsTurn v.stage
    pub each_seat : (j : ℕ) (v : StoryView E) → get_elem? s.views j ≡ some v → Knows (slice_index s.words 0) holder top j v.stage v.seen
    pub within : (j : ℕ) (v : StoryView E) (p : ℕ) → get_elem? s.views j ≡ some v → Contains v.mine p → p ≤ length v.seen.list
    pub apart : (i j : ℕ) (v w : StoryView E) (p : ℕ) → get_elem? s.views i ≡ some v → get_elem? s.views j ≡ some w
        → i ≢ j → Contains v.mine p → Contains w.mine p → ⊥

  abbrev pub Mine : Type 0
  Mine = Me (Maybe B) (StoryView E)

  -- What each step tells its seat.

  -- the turn was free: the seat has it now, with the value as it is
  abbrev pub took : Step (Maybe B) → Mine → ℕ → Mine → Type 0
  took st m r m' =
      (r ≡ 0 → (value : B) × (m' ≡ (viewed (Took (story value)) m.0.seen m.0.mine, (0, Some value) ∷ [])) × AtMost m.0.seen (story value))
      × (r ≢ 0 → m' ≡ m)

  -- the next state is seen, and the place of what was added is the seat's
  abbrev pub state_noted : Story E → Step (Maybe B) → Mine → ℕ → Mine → Type 0
  state_noted next st m r m' = (base : Story E) → m.0.stage ≡ Took base → m' ≡ (viewed Counted next (m.0.mine ++ added_place base.list next.list), m.1)

  -- the turn is free, and the value at home
  abbrev pub turn_left : Step (Maybe B) → Mine → ℕ → Mine → Type 0
  turn_left st m r m' = m' ≡ (idle m.0.seen m.0.mine, [])

  -- the seat has the turn for good, and the value is at home
  abbrev pub turn_ended : Step (Maybe B) → Mine → ℕ → Mine → Type 0
  turn_ended st m r m' = m' ≡ (viewed Ended m.0.seen m.0.mine, [])

  -- what two seats had seen are beginnings of one history, and no place is of both
  abbrev pub seats_met : Step (Maybe B) → Mine → ℕ → Mine → Type 0
  seats_met st m r m' = (a b : Story E) (xs ys : List ℕ) → m.0.stage ≡ Met a b xs ys
      → (AreComparable a.list b.list × (a.opening ≡ b.opening) × Apart xs ys) × (m' ≡ (idle m.0.seen m.0.mine, m.1))

  -- the seat took the turn, and has the value, which is at least what it had seen
  abbrev pub HasTurn : StoryView E → Mine → Type 0
  HasTurn v m = (value : B) × (m ≡ (viewed (Took (story value)) v.seen v.mine, (0, Some value) ∷ [])) × AtMost v.seen (story value)
