use Rattle.std.proofs.Common.{◌≢◌, ◌<◌, ◌∙◌, ℕ, List, arith, length, get_or, set, get_or-set_other, get_or-set_same, below_more, rules, subst}
use Rattle.std.proofs.lemmas.List.{get_or_default}
use Rattle.decimal_rank.specs.declared.naming.DocId.{DocId}
use Rattle.decimal_rank.proofs.Lists.{map-set_same}
use Rattle.assessment.specs.TopicFacts.{AwaitsRun, TopicView, facts_of}
use Rattle.assessment.proofs.runs.reserve_places.Goals as goal

pub returns-in_err-reserve_run-clause-facts : goal.returns-in_err-reserve_run-clause-facts
returns-in_err-reserve_run-clause-facts c =
    let within : c.loop-number.number < length c.loop-number.topics = omega (arith, c.loop-number-test.true, c.loop-number.invariant.long) in
    map-set_same facts_of c.loop-number.topics c.loop-number.number c.reserve_run.new.self c.index-topics-number.result within (search rules)
    ∙ c.loop-number.invariant.facts

pub loop-number-preserved : goal.loop-number-preserved
loop-number-preserved c =
    let i = c.loop-number.number in
    let topics = c.loop-number.topics in
    let lists = c.args.lists.now in
    let new = c.reserve_run.new.self in
    let within : i < length topics = omega (arith, c.loop-number-test.true, c.loop-number.invariant.long) in
    let inside : i < length lists = omega (arith, c.loop-number-test.true, c.requires) in
    let Awaits : ℕ → Type 0 = λ k. (docs : List DocId) (d : TopicView) → AwaitsRun (get_or lists k docs) (get_or (set topics i new) k d) in
    record {
      long = search rules;
      facts = map-set_same facts_of topics i new c.index-topics-number.result within (search rules) ∙ c.loop-number.invariant.facts;
      rooms = λ k docs d below.
          below_more Awaits i
          (λ k h docs d. let other : k ≢ i = omega (arith, h) in rw get_or-set_other (c.loop-number.invariant.rooms k docs d h))
          (λ docs d. rw get_or-set_same
          (subst (λ (list : List DocId). AwaitsRun list new)
          (c.index-lists-number.is ∙ get_or_default lists i c.index-lists-number.result docs inside) c.in_ok-reserve_run.ensures.room))
          k below docs d;
    }
