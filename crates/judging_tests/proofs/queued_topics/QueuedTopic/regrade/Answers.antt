use Rattle.std.proofs.Common.{◌∙◌, ◌-◌, ap, arith, sym}
use Rattle.mtf_queue.specs.Rule.{trail_regraded}
use Rattle.judging_tests.proofs.QueuedTopicSteps.{regraded_at}
use Rattle.judging_tests.proofs.queued_topics.QueuedTopic.regrade.Goals as goal

pub invariant_of-self : goal.invariant_of-self
invariant_of-self c =
    let index = c.args.place - 1 in
    let trail = regraded_at c.self.inside.trail.items index c.index_mut.result.now c.args.relevant (omega (arith, c)) c.index_mut.ensures.value in
    record {
      in_order = c.regrade.ensures.in_order;
      trail_is = trail ∙ ap (λ entries. trail_regraded entries index c.args.relevant) c.self.invariant.trail_is ∙ sym c.regrade.ensures.trail;
      numbered = c.self.invariant.numbered;
    }
