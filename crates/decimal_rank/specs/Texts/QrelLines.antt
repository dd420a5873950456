-- The written line of a qrel.
use Rattle.std.specs.Prelude.{ℕ, List, ◌++◌, codes, decimal}

-- a topic, 0, a docno and a grade with a space between two of them, and a line feed
abbrev pub qrel_line : List ℕ → List ℕ → ℕ → List ℕ
qrel_line topic docno grade = topic ++ codes " 0 " ++ docno ++ codes " " ++ decimal grade ++ codes "\n"
