use Rattle.std.proofs.Common.{◌≡◌, ◌∙◌, true, subst, sym}
use Rattle.depth_pool.specs.Holdings.{has_run}
use Rattle.assessment.specs.TopicFacts.{TopicView}
use Rattle.assessment.proofs.FrontSteps.{fronts-leave}
use Rattle.assessment.proofs.QueuedRuns.{is-queued, left-runs}
use Rattle.assessment.proofs.topic.AssessedTopic.leave.Goals as goal

pub leave-requires-clause-is_in : goal.leave-requires-clause-is_in
leave-requires-clause-is_in c =
    let t = c.self.inside in
    let there : has_run c.args.run t.pool.runs ≡ true = subst (λ (v : TopicView). has_run c.args.run v.facts.pool ≡ true) (sym c.self.view_is) c.requires in
    is-queued t.pool.runs t.queue.order c.args.run c.self.invariant.0.runs there

pub invariant_of-self : goal.invariant_of-self
invariant_of-self c =
    let t = c.self.inside in (
      record {
        runs = rw (c.drop_run.ensures.runs, c.leave.ensures.runs) (left-runs t.pool.runs t.queue.order c.args.run c.self.invariant.0.runs);
        in_order = c.order_outlasts_other_runs.ensures t.pool.runs c.drop_run.new.self.runs c.args.run c.leave.new.self.trail
            c.leave.new.self.order c.drop_run.ensures.others c.leave.ensures.gone c.leave.ensures.in_order;
        trail_is = c.leave.ensures.trail ∙ c.self.invariant.0.trail_is;
      },
      rw c.drop_run.ensures.runs (fronts-leave t.need t.marks.marked t.pool.runs t.fronts c.args.run c.self.invariant.1),
    )
