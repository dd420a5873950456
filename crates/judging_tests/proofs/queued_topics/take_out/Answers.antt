use Rattle.judging_tests.proofs.queued_topics.take_out.Goals as goal

pub returns-clause-in_order : goal.returns-clause-in_order
returns-clause-in_order c =
    c.order_outlasts_other_runs.ensures c.args.pool.now.runs c.drop_run.new.self.runs c.args.run c.leave.new.self.trail
    c.leave.new.self.order c.drop_run.ensures.others c.leave.ensures.gone c.leave.ensures.in_order
