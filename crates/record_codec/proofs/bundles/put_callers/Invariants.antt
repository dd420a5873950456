-- The count, and the callers so far.
use Rattle.std.proofs.Common.{◌≡◌, ◌++◌, length, take}
use Rattle.std.specs.List.{flat_map}
use Rattle.record_codec.specs.Varints.{varint}
use Rattle.record_codec.proofs.bundles.put_callers.Given as goal

abbrev pub invariant-loop-place : goal.invariant-loop-place
invariant-loop-place l = l.out.items ≡ (l.fn.out.items ++ varint (length l.callers)) ++ flat_map (λ t. t) (take l.place l.callers)
