use Rattle.std.proofs.Common.{◌≡◌, ◌≢◌, ◌<◌, ◌∙◌, ℕ, true, ap, arith, length, get_or, set, get_or-set_other, get_or-set_same, below_more, subst, sym}
use Rattle.std.proofs.lemmas.List.{get_or_default}
use Rattle.decimal_rank.proofs.Lists.{map-map}
use Rattle.depth_pool.specs.Holdings.{has_run}
use Rattle.assessment.specs.TopicFacts.{TopicView, facts_of, without_list}
use Rattle.assessment.proofs.ListFacts.{map_alike}
use Rattle.assessment.proofs.runs.leave_each.Goals as goal

pub leave-requires : goal.leave-requires
leave-requires c =
    let i = c.loop-topic.topic-index in
    let d = c.topic-item.result in
    subst (λ (topic : TopicView). has_run c.args.run topic.facts.pool ≡ true)
    (sym (c.loop-topic.invariant.left i d (omega arith))) (c.requires i d c.loop-topic-test.true)

pub returns : goal.returns
returns c =
    map_alike facts_of (λ (topic : TopicView). without_list c.args.run topic.facts) c.loop-topic.topics c.args.topics.now c.loop-topic.auto.topics
    (λ k d e within. c.loop-topic.invariant.done k d e (omega (arith, within, c.loop-topic-test.false)))
    ∙ sym (map-map (without_list c.args.run) facts_of c.args.topics.now)

pub loop-topic-preserved : goal.loop-topic-preserved
loop-topic-preserved c =
    let i = c.loop-topic.topic-index in
    let topics = c.loop-topic.topics in
    let old = c.args.topics.now in
    let new = c.leave.new.self in
    let within : i < length topics = omega (arith, c.loop-topic-test.true, c.loop-topic.auto.topics) in
    let Done : ℕ → Type 0 = λ k. (d e : TopicView) → (get_or (set topics i new) k d).facts ≡ without_list c.args.run (get_or old k e).facts in
    let there : get_or topics i c.topic-item.result ≡ get_or old i c.topic-item.result = c.loop-topic.invariant.left i c.topic-item.result (omega arith) in
    let here : (e : TopicView) → new.facts ≡ without_list c.args.run (get_or old i e).facts = λ e.
    c.leave.ensures
    ∙ ap (λ (topic : TopicView). without_list c.args.run topic.facts) (there ∙ get_or_default old i c.topic-item.result e c.loop-topic-test.true) in
    record {
      done = λ k d e below.
          below_more Done i
          (λ k h d e. let other : k ≢ i = omega (arith, h) in rw get_or-set_other (c.loop-topic.invariant.done k d e h))
          (λ d e. rw get_or-set_same (here e))
          k below d e;
      left = λ k d above.
          let other : k ≢ i = omega (arith, above) in
          rw get_or-set_other (c.loop-topic.invariant.left k d (omega (arith, above)));
    }
