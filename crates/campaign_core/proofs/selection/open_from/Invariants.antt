-- No document passed is open: the first among those left is the first among all.
use Rattle.std.proofs.Common.{◌≡◌, drop, find}
use Rattle.depth_pool.specs.Holdings.{pool_docs}
use Rattle.campaign_core.specs.Assessments.DeskLeases.{is_open_in}
use Rattle.campaign_core.proofs.selection.open_from.Given as goal

abbrev pub invariant-loop-place : goal.invariant-loop-place
invariant-loop-place g l =
    let topic = l.asker.topic.now.facts in
    let is_open = is_open_in topic.need topic.marked l.asker.desk.now.leases l.asker.number l.asker.moment l.asker.assessor.now in
    find is_open (drop l.place (pool_docs topic.pool l.run)) ≡ find is_open (pool_docs topic.pool l.run)
