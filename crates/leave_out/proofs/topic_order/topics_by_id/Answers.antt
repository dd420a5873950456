use Rattle.std.proofs.Common.{◌∙◌, Some, ap, map}
use Rattle.std.proofs.lemmas.Result.{IfOk-weaker}
use Rattle.campaign_core.specs.Views.LentTopics.{topic_at}
use Rattle.leave_out.proofs.TopicsById.{numbers-are}
use Rattle.leave_out.proofs.topic_order.topics_by_id.Goals as goal

pub returns : goal.returns
returns c =
    let H = c.args.state.now.history in
    let ids = c.in_ok-ids.ids.entries in
    IfOk-weaker c.numbers_of.result _ _
    (λ numbers are. ap (map (topic_at H)) are ∙ numbers-are H ids c.in_ok-ids.ensures.numbered ∙ ap (map Some) c.in_ok-ids.ensures.by_id) c.numbers_of.ensures
