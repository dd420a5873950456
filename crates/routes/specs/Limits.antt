-- The most that a request's body has, and the numbers in its path and its fields.
use Rattle.std.specs.Prelude.{ℕ}

-- the most bytes of a body
abbrev pub most_body : ℕ
most_body = 16777216

-- the greatest number of a lease or a release in a path, and the most digits that it is written with
abbrev pub most_path_number : ℕ
most_path_number = 4294967295

abbrev pub most_path_digits : ℕ
most_path_digits = 10

-- the most digits that the number of a command is written with
abbrev pub most_number_digits : ℕ
most_number_digits = 19
