use Rattle.std.proofs.Common.{◌≡◌, ◌∙◌, false, subst, sym, take}
use Rattle.depth_pool.specs.Holdings.{has_run}
use Rattle.assessment.specs.TopicFacts.{TopicView}
use Rattle.assessment.proofs.FrontSteps.{fronts-enter}
use Rattle.assessment.proofs.QueuedRuns.{not-queued, queued-runs}
use Rattle.assessment.proofs.topic.AssessedTopic.enter.Goals as goal

pub enter-requires-clause-in_order : goal.enter-requires-clause-in_order
enter-requires-clause-in_order c =
    let t = c.self.inside in
    let is_new : has_run c.args.run t.pool.runs ≡ false =
    subst (λ (v : TopicView). has_run c.args.run v.facts.pool ≡ false) (sym c.self.view_is) c.requires.is_new in
    c.order_outlasts_other_runs.ensures t.pool.runs c.add_run.new.self.runs c.args.run t.queue.trail t.queue.order c.add_run.ensures.others
    (not-queued t.pool.runs t.queue.order c.args.run c.self.invariant.0.runs is_new) c.self.invariant.0.in_order

pub invariant_of-self : goal.invariant_of-self
invariant_of-self c =
    let t = c.self.inside in (
      record {
        runs = rw c.add_run.ensures.runs (queued-runs t.pool.runs t.queue.order c.enter.new.self.order _ c.self.invariant.0.runs c.enter.ensures.runs);
        in_order = c.enter.ensures.in_order;
        trail_is = c.enter.ensures.trail ∙ c.self.invariant.0.trail_is;
      },
      rw (c.add_run.ensures.runs, c.restart.ensures)
          (fronts-enter t.need t.marks.marked t.pool.runs t.fronts (record { run = c.args.run; docs = take t.pool.depth c.args.list.now }) c.self.invariant.1),
    )
