use Rattle.std.proofs.Common.{◌≡◌, ◌∙◌, ◌∷◌, [], List, ap, arith, length, refl, subst, sym}
use Rattle.std.specs.Vec.Iter.{into_iter_items}
use Rattle.std.proofs.lemmas.List.{length-append, nil_from_length}
use Rattle.decimal_rank.specs.declared.naming.DocId.{DocId}
use Rattle.assessment.specs.TopicsFacts.{AwaitsList, IsNewOn, UsesRoom, after_list, topics_facts}
use Rattle.assessment.proofs.RunChanges.EnteredRuns.{IsEnteredTo, at-rest, awaits, entered, entering, new-on}
use Rattle.assessment.proofs.runs.enter_run.Goals.{In-Some}
use Rattle.assessment.proofs.runs.enter_run.Goals as goal

-- with the list that comes next
here : (c : In-Some)
    → IsEnteredTo c.args.run c.args.lists.items c.args.topics.now c.loop-list.yielded (c.in-Some.list ∷ into_iter_items c.next.new.self) c.loop-list.topics
here c = subst (λ (left : List (List DocId)). IsEnteredTo c.args.run c.args.lists.items c.args.topics.now c.loop-list.yielded left c.loop-list.topics)
    c.in-Some.ensures.steps.0 c.loop-list.invariant.entered

pub loop-list-init : goal.loop-list-init
loop-list-init c =
    let gives = c.into_iter-list-iterator.ensures.into_iter_gives in
    let items : into_iter_items c.into_iter-list-iterator.result ≡ c.args.lists.items = gives.0 in
    record {
      entered = subst (λ (left : List (List DocId)). IsEnteredTo c.args.run c.args.lists.items c.args.topics.now [] left c.args.topics.now)
          (sym items) (entering c.requires.room c.requires.is_new);
      len = omega (arith, gives.1, ap length items);
      number = refl;
    }

pub enter_list-requires-clause-room : goal.enter_list-requires-clause-room
enter_list-requires-clause-room c =
    let at = c.loop-list in
    subst (λ n. AwaitsList n c.in-Some.list at.topics) (sym at.invariant.number)
    (awaits c.requires.room c.requires.is_new (here (goal.at.enter_list-requires-clause-room c).In-Some))

pub enter_list-requires-clause-is_new : goal.enter_list-requires-clause-is_new
enter_list-requires-clause-is_new c =
    let at = c.loop-list in
    subst (λ n. IsNewOn n c.args.run (topics_facts at.topics)) (sym at.invariant.number)
    (new-on c.requires.room c.requires.is_new (here (goal.at.enter_list-requires-clause-is_new c).In-Some))

pub loop-list-preserved : goal.loop-list-preserved
loop-list-preserved c =
    let at = c.loop-list in
    let docs = c.in-Some.list in
    let later = c.enter_list.new.self in
    let facts = subst (λ n. topics_facts later ≡ after_list n c.args.run docs (topics_facts at.topics)) at.invariant.number c.enter_list.ensures.facts in
    let used = subst (λ n. UsesRoom n docs at.topics later) at.invariant.number c.enter_list.ensures.room in
    record {
      entered = entered c.requires.room c.requires.is_new (here (goal.at.loop-list-preserved c).In-Some) facts used;
      len =
          let was = at.invariant.len in
          let gone = c.in-Some.ensures.steps.1 in
          let short = ap length c.in-Some.ensures.steps.0 in
          omega arith;
      number = omega (arith, at.invariant.number, length-append at.yielded (docs ∷ []));
    }

pub returns : goal.returns
returns c =
    let at = c.loop-list in
    let empty : into_iter_items at.list-iterator ≡ [] = nil_from_length _ (sym at.invariant.len ∙ c.in-None.ensures.steps.0) in
    at-rest c.requires.room c.requires.is_new
    (subst (λ (left : List (List DocId)). IsEnteredTo c.args.run c.args.lists.items c.args.topics.now at.yielded left at.topics) empty at.invariant.entered)
