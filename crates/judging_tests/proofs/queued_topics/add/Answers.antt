use Rattle.judging_tests.proofs.QueuedTopicSteps.{absent}
use Rattle.judging_tests.proofs.queued_topics.add.Goals as goal

pub enter-requires-clause-is_new : goal.enter-requires-clause-is_new
enter-requires-clause-is_new c = absent c.args.pool.now.runs c.args.queue.now.order c.args.run c.requires.in_order.in_pool c.requires.is_new

pub enter-requires-clause-in_order : goal.enter-requires-clause-in_order
enter-requires-clause-in_order c =
    c.order_outlasts_other_runs.ensures c.args.pool.now.runs c.add_run.new.self.runs c.args.run c.args.queue.now.trail
    c.args.queue.now.order c.add_run.ensures.others (enter-requires-clause-is_new c) c.requires.in_order
