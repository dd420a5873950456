use Rattle.std.proofs.Common.{◌<◌, ◌+◌, sym, ap, subst, ◌∙◌, take, refl}
use Rattle.std.specs.List.{All}
use Rattle.depth_pool.specs.Holdings.{Held, has_run, with_run}
use Rattle.judging_tests.proofs.QueuedTopicSteps.{number_is_new, numbered_with_run}
use Rattle.judging_tests.proofs.queued_topics.QueuedTopic.submit.Goals as goal

pub add-requires-clause-is_new : goal.add-requires-clause-is_new
add-requires-clause-is_new c = ap (has_run (record { 0 = c.self.inside.next })) c.reserve.ensures.runs
    ∙ number_is_new c.self.inside.pool.runs c.self.inside.next c.self.invariant.numbered

pub invariant_of-self-2 : goal.invariant_of-self-2
invariant_of-self-2 c =
    let next = c.self.inside.next in
    let new : Held = record { run = record { 0 = next }; docs = take c.reserve.new.self.depth c.in_ok-ranking.ranking } in
    let numbered : All (λ (held : Held). held.run.0 < next + 1) (with_run new c.self.inside.pool.runs) =
    numbered_with_run new c.self.inside.pool.runs next refl c.self.invariant.numbered in
    record {
      in_order = c.add.ensures.in_order;
      trail_is = c.self.invariant.trail_is ∙ sym (c.add.ensures.trail ∙ c.reserve-2.ensures.trail);
      numbered = subst (λ n. All (λ (held : Held). held.run.0 < n) c.add.new.pool.runs) (sym c.in_ok-next.ensures)
          (subst (All (λ (held : Held). held.run.0 < next + 1)) (sym (c.add.ensures.runs ∙ ap (with_run new) c.reserve.ensures.runs)) numbered);
    }
