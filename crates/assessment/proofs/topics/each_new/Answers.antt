use Rattle.std.proofs.Common.{◌≡◌, ◌∙◌, ◌∷◌, ◌++◌, [], List, ap, arith, length, map, sym}
use Rattle.std.specs.Vec.Iter.{into_iter_items}
use Rattle.std.proofs.lemmas.List.{append_assoc, append-nil, map-append, nil_from_length}
use Rattle.assessment.specs.TopicFacts.{TopicFacts, facts_of, new_topic}
use Rattle.assessment.specs.declared.topic.TopicRules.{TopicRules}
use Rattle.assessment.proofs.topics.each_new.Goals as goal

pub loop-rules-init : goal.loop-rules-init
loop-rules-init c =
    let gives = c.into_iter-rules-iterator.ensures.into_iter_gives in
    let items : into_iter_items c.into_iter-rules-iterator.result ≡ c.args.given.items = gives.0 in
    record { left = items; len = omega (arith, gives.1, ap length items); facts = ap (map facts_of) c.in_ok-topics.ensures.items }

pub loop-rules-preserved : goal.loop-rules-preserved
loop-rules-preserved c =
    let at = c.loop-rules in
    let rules = c.in-Some.rules in
    let left = into_iter_items c.next.new.self in
    let steps = c.in-Some.ensures.steps.0 in
    record {
      left = append_assoc at.yielded (rules ∷ []) left ∙ ap (λ (rs : List TopicRules). at.yielded ++ rs) (sym steps) ∙ at.invariant.left;
      len =
          let was = at.invariant.len in
          let gone = c.in-Some.ensures.steps.1 in
          let short = ap length steps in
          omega arith;
      facts = ap (map facts_of) c.in_ok-push.ensures.items
          ∙ map-append facts_of at.topics.items (c.new.result ∷ [])
          ∙ ap (λ (facts : List TopicFacts). facts ++ c.new.result.facts ∷ []) at.invariant.facts
          ∙ ap (λ (facts : TopicFacts). map new_topic at.yielded ++ facts ∷ []) c.new.ensures
          ∙ sym (map-append new_topic at.yielded (rules ∷ []));
    }

pub returns : goal.returns
returns c =
    let at = c.loop-rules in
    let empty : into_iter_items at.rules-iterator ≡ [] = nil_from_length _ (sym at.invariant.len ∙ c.in-None.ensures.steps.0) in
    let all : at.yielded ≡ c.args.given.items = sym (append-nil at.yielded) ∙ ap (λ (rs : List TopicRules). at.yielded ++ rs) (sym empty) ∙ at.invariant.left in
    at.invariant.facts ∙ ap (map new_topic) all
