-- What is written, and the entries that are left, whatever callers the table has.
use Rattle.std.proofs.Common.{◌≡◌, ◌++◌, true, List, drop, length, map}
use Rattle.std.specs.List.{flat_map}
use Rattle.rulebook.specs.declared.rules.Caller.{Caller}
use Rattle.record_codec.specs.Bundles.{are_rising, caller_bytes, item_bytes, items_of}
use Rattle.record_codec.specs.Varints.{varint}
use Rattle.record_codec.proofs.bundles.put_items.Given as goal

abbrev pub invariant-loop-core : goal.invariant-loop-core
invariant-loop-core l =
    ((table : List Caller) → l.callers ≡ map caller_bytes table
    → l.out.items ++ flat_map item_bytes (items_of table l.texts l.earlier (drop l.core-index l.cores))
    ≡ l.fn.out.items ++ (varint (length l.cores) ++ flat_map item_bytes (items_of table l.texts 0 l.cores)))
    × (are_rising l.earlier (drop l.core-index l.cores) ≡ true)
