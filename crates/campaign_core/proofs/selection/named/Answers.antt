use Rattle.std.proofs.Common.{◌∙◌, List, ap}
use Rattle.depth_pool.specs.declared.runs.RunId.{RunId}
use Rattle.campaign_core.specs.Assessments.DeskLeases.{first_open, is_open_in}
use Rattle.campaign_core.proofs.selection.named.Goals as goal

pub returns : goal.returns
returns c =
    let topic = c.args.topic.now.facts in (
      c.queue-queue.result.now,
      c.queue-queue.ensures,
      c.first_in.ensures
          ∙ ap (λ (order : List RunId). first_open
          (is_open_in topic.need topic.marked c.args.desk.now.leases c.args.number c.args.now c.args.assessor.now) topic.pool order) c.order.ensures,
    )
