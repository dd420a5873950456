use Rattle.archive_reports.proofs.PairLaws.{has-common, has-room, part-le}
use Rattle.archive_reports.proofs.comparisons.counted.Goals as goal

pub with_run-pairs-requires-clause-room : goal.with_run-pairs-requires-clause-room
with_run-pairs-requires-clause-room c =
    has-room c.loop-left.pairs c.loop-left.left.now c.args.found.now _ c.requires c.loop-left.invariant.1
    (part-le _ 256 c.loop-left.left.now c.loop-left.invariant.0)

pub with_run-pairs-requires-clause-common : goal.with_run-pairs-requires-clause-common
with_run-pairs-requires-clause-common c =
    has-common c.loop-left.pairs c.loop-left.left.now c.args.found.now c.requires c.loop-left.invariant.1
