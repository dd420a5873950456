use Rattle.std.proofs.Common.{◌≡◌, ◌∙◌, ◌∷◌, None, [], List, ap, arith, length, refl, subst, sym}
use Rattle.std.specs.Vec.Iter.{into_iter_items}
use Rattle.std.proofs.lemmas.List.{length-append, nil_from_length}
use Rattle.decimal_rank.specs.declared.naming.DocId.{DocId}
use Rattle.assessment.specs.TopicsFacts.{after_one_list, topics_facts}
use Rattle.assessment.proofs.RunChanges.WaitingSteps.{IsListedTo, list-ended, list-more, list-new, list-within, listing}
use Rattle.assessment.proofs.runs.list_run.Goals.{In-Some}
use Rattle.assessment.proofs.runs.list_run.Goals as goal

-- with the list that comes next
here : (c : In-Some)
    → IsListedTo c.args.run c.args.lists.items c.args.topics.now c.loop-list.yielded (c.in-Some.list ∷ into_iter_items c.next.new.self) c.loop-list.topics
here c = subst (λ (left : List (List DocId)). IsListedTo c.args.run c.args.lists.items c.args.topics.now c.loop-list.yielded left c.loop-list.topics)
    c.in-Some.ensures.steps.0 c.loop-list.invariant.listed

pub loop-list-init : goal.loop-list-init
loop-list-init c =
    let gives = c.into_iter-list-iterator.ensures.into_iter_gives in
    let items : into_iter_items c.into_iter-list-iterator.result ≡ c.args.lists.items = gives.0 in
    record {
      listed = subst (λ (left : List (List DocId)). IsListedTo c.args.run c.args.lists.items c.args.topics.now [] left c.args.topics.now)
          (sym items) (listing c.args.run c.args.lists.items c.args.topics.now c.requires.none);
      len = omega (arith, gives.1, ap length items);
      number = refl;
    }

pub list-requires-clause-topic : goal.list-requires-clause-topic
list-requires-clause-topic c =
    let within = list-within c.requires.is_new c.requires.as_many (here (goal.at.list-requires-clause-topic c).In-Some) in
    omega (arith, within, c.loop-list.invariant.number)

pub list-requires-clause-is_new : goal.list-requires-clause-is_new
list-requires-clause-is_new c =
    let at = c.loop-list in
    subst (λ n. (topics_facts at.topics).lists c.args.run n ≡ None) (sym at.invariant.number)
    (list-new c.requires.is_new (here (goal.at.list-requires-clause-is_new c).In-Some))

pub list-requires-clause-none : goal.list-requires-clause-none
list-requires-clause-none c = c.loop-list.invariant.listed.none

pub loop-list-preserved : goal.loop-list-preserved
loop-list-preserved c =
    let at = c.loop-list in
    let docs = c.in-Some.list in
    let later = c.list.new.self in
    let facts = subst (λ n. topics_facts later ≡ after_one_list n c.args.run docs (topics_facts at.topics)) at.invariant.number c.in_ok-list.ensures.facts in
    record {
      listed = list-more c.requires.is_new (here (goal.at.loop-list-preserved c).In-Some) facts c.in_ok-list.ensures.none;
      len =
          let was = at.invariant.len in
          let gone = c.in-Some.ensures.steps.1 in
          let short = ap length c.in-Some.ensures.steps.0 in
          omega arith;
      number = omega (arith, at.invariant.number, length-append at.yielded (docs ∷ []));
    }

pub returns : goal.returns
returns c =
    let at = c.loop-list in
    let empty : into_iter_items at.list-iterator ≡ [] = nil_from_length _ (sym at.invariant.len ∙ c.in-None.ensures.steps.0) in
    let ended = subst
    (λ (left : List (List DocId)). IsListedTo c.args.run c.args.lists.items c.args.topics.now at.yielded left at.topics) empty at.invariant.listed in
    record { facts = list-ended c.requires.is_new ended; none = ended.none }
