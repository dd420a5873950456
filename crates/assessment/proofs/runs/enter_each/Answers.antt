use Rattle.std.proofs.Common.{◌≡◌, ◌≢◌, ◌<◌, ◌∙◌, ℕ, List, false, ap, arith, length, get_or, set, get_or-set_other, get_or-set_same, below_more, refl, rules, subst, sym}
use Rattle.std.proofs.lemmas.List.{get_or_default}
use Rattle.decimal_rank.specs.declared.naming.DocId.{DocId}
use Rattle.depth_pool.specs.Holdings.{has_run}
use Rattle.assessment.specs.TopicFacts.{AwaitsRun, TopicView, topic_with_list}
use Rattle.assessment.proofs.RunChanges.RunSteps.{each-alike}
use Rattle.assessment.proofs.runs.enter_each.Goals.{After-index-lists-number}
use Rattle.assessment.proofs.runs.enter_each.Goals as goal

-- the topic that comes next is as it was
there : (c : After-index-lists-number) → (d : TopicView)
    → get_or c.loop-number.topics c.loop-number.number c.index-topics-number.result ≡ get_or c.args.topics.now c.loop-number.number d
there c d =
    let i = c.loop-number.number in
    let within : i < length c.loop-number.topics = omega (arith, c.loop-number-test.true, c.loop-number.invariant.long) in
    get_or_default c.loop-number.topics i c.index-topics-number.result d within ∙ c.loop-number.invariant.left i d (omega arith)

list_there : (c : After-index-lists-number) → (docs : List DocId) → c.index-lists-number.result ≡ get_or c.args.lists.now c.loop-number.number docs
list_there c docs =
    let i = c.loop-number.number in
    let inside : i < length c.args.lists.now = omega (arith, c.loop-number-test.true, c.requires.room.as_many) in
    c.index-lists-number.is ∙ get_or_default c.args.lists.now i c.index-lists-number.result docs inside

pub enter-requires-clause-room : goal.enter-requires-clause-room
enter-requires-clause-room c =
    let at = (goal.at.enter-requires-clause-room c).After-index-lists-number in
    let docs = c.index-lists-number.result in
    let d = c.index-topics-number.result in
    subst (λ (topic : TopicView). AwaitsRun docs topic) (sym (there at d))
    (subst (λ (list : List DocId). AwaitsRun list (get_or c.args.topics.now c.loop-number.number d)) (sym (list_there at docs))
    (c.requires.room.on_topics c.loop-number.number docs d c.loop-number-test.true))

pub enter-requires-clause-is_new : goal.enter-requires-clause-is_new
enter-requires-clause-is_new c =
    let at = (goal.at.enter-requires-clause-is_new c).After-index-lists-number in
    let d = c.index-topics-number.result in
    subst (λ (topic : TopicView). has_run c.args.run topic.facts.pool ≡ false) (sym (there at d))
    (c.requires.is_new c.loop-number.number d c.loop-number-test.true)

pub loop-number-init : goal.loop-number-init
loop-number-init c = record { long = refl; done = λ k d e docs below. absurd (omega (arith, below)); left = λ k d above. refl }

pub loop-number-preserved : goal.loop-number-preserved
loop-number-preserved c =
    let at = (goal.at.loop-number-preserved c).After-index-lists-number in
    let i = c.loop-number.number in
    let topics = c.loop-number.topics in
    let old = c.args.topics.now in
    let lists = c.args.lists.now in
    let new = c.enter.new.self in
    let within : i < length topics = omega (arith, c.loop-number-test.true, c.loop-number.invariant.long) in
    let Done : ℕ → Type 0 = λ k. (d e : TopicView) (docs : List DocId)
    → (get_or (set topics i new) k d).facts ≡ topic_with_list c.args.run (get_or lists k docs) (get_or old k e).facts in
    let here : (e : TopicView) (docs : List DocId) → new.facts ≡ topic_with_list c.args.run (get_or lists i docs) (get_or old i e).facts = λ e docs.
    c.enter.ensures ∙ ap (λ (list : List DocId). topic_with_list c.args.run list (get_or topics i c.index-topics-number.result).facts) (list_there at docs)
    ∙ ap (λ (topic : TopicView). topic_with_list c.args.run (get_or lists i docs) topic.facts) (there at e) in
    record {
      long = search rules;
      done = λ k d e docs below.
          below_more Done i
          (λ k h d e docs. let other : k ≢ i = omega (arith, h) in rw get_or-set_other (c.loop-number.invariant.done k d e docs h))
          (λ d e docs. rw get_or-set_same (here e docs))
          k below d e docs;
      left = λ k d above.
          let other : k ≢ i = omega (arith, above) in
          rw get_or-set_other (c.loop-number.invariant.left k d (omega (arith, above)));
    }

pub returns : goal.returns
returns c =
    each-alike c.args.run c.args.lists.now c.args.topics.now c.loop-number.topics c.loop-number.invariant.long c.requires.room.as_many
    (λ k d e docs within. c.loop-number.invariant.done k d e docs (omega (arith, within, c.loop-number-test.false, c.loop-number.invariant.long)))
