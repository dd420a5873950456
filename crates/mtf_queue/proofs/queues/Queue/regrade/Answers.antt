use Rattle.std.proofs.Common.{sym, subst}
use Rattle.std.specs.List.{AllPairs}
use Rattle.depth_pool.specs.Holdings.{pool_holds}
use Rattle.mtf_queue.specs.QueueView.{QueueView}
use Rattle.mtf_queue.specs.Rule.{IsBefore, IsInOrder}
use Rattle.mtf_queue.proofs.OrderedQueues.{differ_in_order, in_order_resorted}
use Rattle.mtf_queue.proofs.queues.Queue.regrade.Goals as goal

pub returns-clause-in_order : goal.returns-clause-in_order
returns-clause-in_order c =
    let runs = c.args.pool.now.runs in
    let order = c.self.inside.order.items in
    let sorted = c.sort_by_rule.new.order.items in
    let before : IsInOrder runs c.self.inside.trail.items order =
    subst (λ (queue : QueueView). IsInOrder runs queue.trail queue.order) (sym c.self.view_is) c.requires.in_order in
    in_order_resorted runs c.set_grade-is_other.new.trail.items order sorted before.in_pool
    (differ_in_order (pool_holds runs) c.self.inside.trail.items order before.pairwise) c.sort_by_rule.ensures.runs
    (λ differ. subst (λ t. AllPairs (IsBefore (pool_holds runs) t) sorted) c.as_slice.ensures.value (c.sort_by_rule.ensures.pairwise differ))
