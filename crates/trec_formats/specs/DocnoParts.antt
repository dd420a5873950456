-- Docnos one after another in one list of bytes, with the place where each ends.
use Rattle.std.specs.Prelude.{◌≡◌, ◌≤◌, ◌-◌, ℕ, List, [], ◌∷◌, take, drop}

-- the docnos that end at these places, the first of which begins at a place
abbrev pub parts_from : ℕ → List ℕ → List ℕ → List (List ℕ)
parts_from start [] bytes = []
parts_from start (end ∷ ends) bytes = take (end - start) (drop start bytes) ∷ parts_from end ends bytes

-- places from one on, none before the last one, that end where so many bytes do
abbrev pub AreEnds : ℕ → List ℕ → ℕ → Type 0
AreEnds start [] len = start ≡ len
AreEnds start (end ∷ ends) len = (start ≤ end) × AreEnds end ends len
