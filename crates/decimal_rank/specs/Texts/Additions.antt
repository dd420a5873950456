-- Bytes that grow by a text.
use Rattle.std.specs.Prelude.{◌≡◌, ℕ, ◌+◌, ◌≤◌, List, ◌++◌, Result, OnOk, OnErr, IsOk, length, vec_capacity}
use Rattle.std.specs.declared.alloc.Global.{Global}
use Rattle.std.specs.declared.vec.Vec.{Vec}

-- The text is appended, or there was no memory for it and the bytes stay. There is memory where they have room for the text.
pub record Adds {T E : Type 0} (old new : Vec ℕ Global) (text : List ℕ) (result : Result T E) : Type 0 where
  pub text_added : OnOk result (new.items ≡ old.items ++ text)
  pub unchanged : OnErr result (new.items ≡ old.items)
  pub room : length old.items + length text ≤ vec_capacity old → IsOk result
  pub capacity : vec_capacity old ≤ vec_capacity new
