-- What is written so far, and the groups that are left.
use Rattle.std.proofs.Common.{◌≡◌, ◌++◌, ℕ}
use Rattle.record_codec.specs.Varints.{varint_groups}
use Rattle.record_codec.proofs.BundleCodes.VarintGroups.{HasGroups}
use Rattle.record_codec.proofs.bundles.varints.put_varint.Given as goal

abbrev pub invariant-loop-rest : goal.invariant-loop-rest
invariant-loop-rest l =
    (most : ℕ) × HasGroups most l.rest × (l.out.items ++ varint_groups most l.rest ≡ l.fn.out.items ++ varint_groups 10 l.number)

abbrev pub decreases-loop-rest : goal.decreases-loop-rest
decreases-loop-rest l = l.rest
