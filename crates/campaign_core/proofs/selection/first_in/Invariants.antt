-- No document of the runs passed is open: the first in the runs left is the first in all.
use Rattle.std.proofs.Common.{◌≡◌, drop}
use Rattle.campaign_core.specs.Assessments.DeskLeases.{first_open, is_open_in}
use Rattle.campaign_core.proofs.selection.first_in.Given as goal

abbrev pub invariant-loop-run : goal.invariant-loop-run
invariant-loop-run g l =
    let topic = l.asker.topic.now.facts in
    let is_open = is_open_in topic.need topic.marked l.asker.desk.now.leases l.asker.number l.asker.moment l.asker.assessor.now in
    first_open is_open topic.pool (drop l.run-index l.order) ≡ first_open is_open topic.pool l.order
