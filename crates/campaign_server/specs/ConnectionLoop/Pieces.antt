-- A place in pieces of text that are taken from the front.
use Rattle.std.specs.Prelude.{◌≡◌, ℕ, ◌<◌, Bool, List, ◌++◌, length, take, drop, nat_lt, slice_get, MatchOption}
use Rattle.std.specs.List.{concat, list_all}

-- no piece is empty
abbrev pub are_filled : List (List ℕ) → Bool
are_filled pieces = list_all (λ piece. nat_lt 0 (length piece)) pieces

-- what is taken where so many pieces were taken whole and so many bytes of the next
abbrev pub taken_of : List (List ℕ) → ℕ → ℕ → List ℕ
taken_of pieces at within = concat (take at pieces) ++ take within (concat (drop at pieces))

-- and what is left
abbrev pub left_of : List (List ℕ) → ℕ → ℕ → List ℕ
left_of pieces at within = drop within (concat (drop at pieces))

-- the place is before a byte of a piece, or behind all pieces
abbrev pub IsPlace : List (List ℕ) → ℕ → ℕ → Type 0
IsPlace pieces at within = MatchOption (slice_get pieces at) (within ≡ 0) (λ piece. within < length piece)
