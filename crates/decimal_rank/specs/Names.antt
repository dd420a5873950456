-- Names numbered in the order in which they came.
use Rattle.std.specs.Prelude.{ℕ, List, [], ◌∷◌, ◌++◌, Option, if◌then◌else◌, slice_index_or}
use Rattle.std.specs.List.{list_any, position}
use Rattle.std.specs.Str.{bytes_eq}

-- the names after one is added: they stay where it is there, and else it goes last
abbrev pub with_name : List (List ℕ) → List ℕ → List (List ℕ)
with_name names name = if list_any (bytes_eq name) names then names else names ++ name ∷ []

-- the number of a name
abbrev pub number_of : List (List ℕ) → List ℕ → Option ℕ
number_of names name = position (bytes_eq name) names

-- the name of a number
abbrev pub docno_of : List (List ℕ) → ℕ → List ℕ
docno_of names doc = slice_index_or names doc []
