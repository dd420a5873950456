-- What a text feeds a hash function.
use Rattle.std.specs.Prelude.{ℕ, List, [], ◌∷◌, ◌++◌, length}
use Rattle.std.specs.Hash as fed

-- its length, and its bytes at once
abbrev pub text_writes : List ℕ → List (List ℕ)
text_writes text = fed.usize (length text) ++ text ∷ []
