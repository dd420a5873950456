use Rattle.std.proofs.Common.{sym, subst}
use Rattle.std.specs.List.{Contains}
use Rattle.mtf_queue.specs.QueueView.{QueueView}
use Rattle.mtf_queue.specs.Rule.{IsInOrder}
use Rattle.mtf_queue.proofs.OrderedQueues.{gone_filtered, in_order_filtered}
use Rattle.mtf_queue.proofs.queues.Queue.leave.Goals as goal

pub returns-clause-gone : goal.returns-clause-gone
returns-clause-gone c = λ among. gone_filtered c.args.run c.self.inside.order.items (subst (λ order. Contains order c.args.run) c.remove_run.ensures.runs among)

pub returns-clause-in_order : goal.returns-clause-in_order
returns-clause-in_order c =
    let before : IsInOrder c.args.pool.now.runs c.self.inside.trail.items c.self.inside.order.items =
    subst (λ (queue : QueueView). IsInOrder c.args.pool.now.runs queue.trail queue.order) (sym c.self.view_is) c.requires.in_order in
    subst (IsInOrder c.args.pool.now.runs c.self.inside.trail.items) (sym c.remove_run.ensures.runs)
    (in_order_filtered c.args.pool.now.runs c.self.inside.trail.items c.self.inside.order.items c.args.run before)
