use Rattle.std.proofs.Common.{◌<◌, sym, subst, ◌∙◌}
use Rattle.std.specs.List.{All}
use Rattle.depth_pool.specs.Holdings.{Held}
use Rattle.judging_tests.proofs.QueuedTopicSteps.{numbered_without_run}
use Rattle.judging_tests.proofs.queued_topics.QueuedTopic.withdraw.Goals as goal

pub invariant_of-self : goal.invariant_of-self
invariant_of-self c =
    let next = c.self.inside.next in
    record {
      in_order = c.take_out.ensures.in_order;
      trail_is = c.self.invariant.trail_is ∙ sym c.take_out.ensures.trail;
      numbered = subst (All (λ (held : Held). held.run.0 < next)) (sym c.take_out.ensures.runs)
          (numbered_without_run c.args.run c.self.inside.pool.runs next c.self.invariant.numbered);
    }
