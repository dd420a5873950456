-- What is appended is the count of all docnos and the spelling of those so far.
use Rattle.std.proofs.Common.{◌≡◌, ◌++◌, length, take}
use Rattle.std.specs.Int.{w32, to_le_bytes}
use Rattle.std.specs.List.{flat_map}
use Rattle.rulebook.specs.Spelling.{short}
use Rattle.record_codec.proofs.spelling.put_docnos.Given as goal

abbrev pub invariant-loop-place : goal.invariant-loop-place
invariant-loop-place l = l.out.items ≡ l.fn.out.items ++ (to_le_bytes w32 (length l.docs) ++ flat_map short (take l.place l.docs))
