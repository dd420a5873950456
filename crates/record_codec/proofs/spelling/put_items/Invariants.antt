-- What is appended is the count of all items and the bytes of those so far.
use Rattle.std.proofs.Common.{◌≡◌, ◌++◌, length, take}
use Rattle.std.specs.Int.{w32, to_le_bytes}
use Rattle.std.specs.List.{flat_map}
use Rattle.record_codec.proofs.spelling.put_items.Given as goal

abbrev pub invariant-loop-item : goal.invariant-loop-item
invariant-loop-item g l = l.out.items ≡ l.fn.out.items ++ (to_le_bytes w32 (length l.items) ++ flat_map g.T.Spelled.spelling (take l.item-index l.items))
