-- What an output tells of its writes.
use Rattle.std.specs.Prelude.{ℕ, List, Option}

-- the bytes written, where the output tells them, and how many writes failed
pub record Writing : Type 0 where
  pub written : Option (List ℕ)
  pub faults : ℕ
