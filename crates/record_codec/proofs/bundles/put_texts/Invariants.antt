-- The count, and the texts so far.
use Rattle.std.proofs.Common.{◌≡◌, ◌++◌, length, take}
use Rattle.std.specs.List.{flat_map}
use Rattle.rulebook.specs.Spelling.{short}
use Rattle.record_codec.specs.Varints.{varint}
use Rattle.record_codec.proofs.bundles.put_texts.Given as goal

abbrev pub invariant-loop-place : goal.invariant-loop-place
invariant-loop-place l = l.out.items ≡ (l.fn.out.items ++ varint (length l.texts)) ++ flat_map short (take l.place l.texts)
