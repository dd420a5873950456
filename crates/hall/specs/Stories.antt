-- How states grow.
use Rattle.std.specs.Prelude.{◌≡◌, ◌+◌, ◌≤◌, ◌⊎◌, List, ◌++◌, cond, length, max, nat_le}
use Rattle.hall.specs.declared.stories.Story.{Story}

module _ {E : Type 0} where
  -- the list xs begins with ys
  abbrev pub HasPrefix : List E → List E → Type 0
  HasPrefix xs ys = (rest : List E) × (xs ≡ ys ++ rest)

  -- nothing of the state a is lost in b: its list begins that of b, its count isn't greater, and the openings are equal
  abbrev pub AtMost : Story E → Story E → Type 0
  AtMost a b = HasPrefix b.list a.list × (a.faults ≤ b.faults) × (a.opening ≡ b.opening)

  -- the state b is at least a, with one entry more at most
  abbrev pub Grows : Story E → Story E → Type 0
  Grows a b = AtMost a b × (length b.list ≤ length a.list + 1)

  -- one of the lists begins the other
  abbrev pub AreComparable : List E → List E → Type 0
  AreComparable xs ys = HasPrefix ys xs ⊎ HasPrefix xs ys

  abbrev pub longer : List E → List E → List E
  longer xs ys = cond (nat_le (length xs) (length ys)) ys xs

  -- the longer list and the greater count
  abbrev pub joined_story : Story E → Story E → Story E
  joined_story a b = record { list = longer a.list b.list; faults = max a.faults b.faults; opening = a.opening }
