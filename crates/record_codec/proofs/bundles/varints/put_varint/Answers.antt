-- Group by group.
use Rattle.std.proofs.Common.{arith, refl, ◌++◌}
use Rattle.record_codec.specs.Varints.{varint_groups}
use Rattle.record_codec.proofs.BundleCodes.VarintGroups.{first_group, next_group}
use Rattle.record_codec.proofs.bundles.varints.put_varint.Goals as goal

pub loop-rest-init : goal.loop-rest-init
loop-rest-init c = (10, first_group c.args.number (omega arith), refl)

pub loop-rest-preserved : goal.loop-rest-preserved
loop-rest-preserved c =
    let w = c.loop-rest.invariant in
    rw c.in_ok-push.ensures.items (next_group c.loop-rest.out.items (c.args.out.now.items ++ varint_groups 10 c.args.number)
    w.0 c.loop-rest.rest (omega arith) w.1 w.2)
