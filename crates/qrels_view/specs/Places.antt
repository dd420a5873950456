-- The places of documents in a trail, in any order.
use Rattle.std.specs.Prelude.{ℕ, zero, suc, List, [], ◌∷◌, ◌++◌, None, get_or, length}
use Rattle.std.specs.List.Sorted.{IsPermutation}
use Rattle.qrels_view.specs.declared.grades.Graded.{Graded}
use Rattle.qrels_view.specs.declared.grades.Placed.{Placed}

-- the first places, from 0
abbrev pub first_places : ℕ → List ℕ
first_places zero = []
first_places (suc n) = first_places n ++ n ∷ []

-- as many of the first places as these are, each once
abbrev pub HasFirstPlaces : List ℕ → Type 0
HasFirstPlaces places = IsPermutation (first_places (length places)) places

-- what stands behind the trail: no grade
abbrev pub ungraded : Graded
ungraded = record { doc = record { 0 = 0 }; grade = None }

-- a document of the trail at its place
abbrev pub placed_at : List Graded → ℕ → Placed
placed_at graded place = record { place = place; graded = get_or graded place ungraded }
