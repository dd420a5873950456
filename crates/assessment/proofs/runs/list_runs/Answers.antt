use Rattle.std.proofs.Common.{◌≡◌, ◌∙◌, ◌∷◌, [], List, ap, arith, length, map, subst, sym}
use Rattle.std.specs.Vec.Iter.{into_iter_items}
use Rattle.std.proofs.lemmas.List.{map-append, nil_from_length}
use Rattle.assessment.specs.WaitingRuns.{RunLists, lists_of}
use Rattle.assessment.specs.declared.waiting.WaitingRun.{WaitingRun}
use Rattle.assessment.proofs.RunChanges.WaitingSteps.{AreListedTo, runs-ended, runs-listing, runs-more}
use Rattle.assessment.proofs.runs.list_runs.Goals.{In-Some}
use Rattle.assessment.proofs.runs.list_runs.Goals as goal

-- with the run that comes next
here : (c : In-Some) → AreListedTo (map lists_of c.args.runs.items) c.args.topics (map lists_of c.loop-one.yielded)
    (lists_of c.in-Some.one ∷ map lists_of (into_iter_items c.next.new.self)) c.loop-one.topics
here c = subst (λ (left : List WaitingRun). AreListedTo (map lists_of c.args.runs.items) c.args.topics (map lists_of c.loop-one.yielded)
    (map lists_of left) c.loop-one.topics) c.in-Some.ensures.steps.0 c.loop-one.invariant.listed

pub loop-one-init : goal.loop-one-init
loop-one-init c =
    let gives = c.into_iter-one-iterator.ensures.into_iter_gives in
    let items : into_iter_items c.into_iter-one-iterator.result ≡ c.args.runs.items = gives.0 in
    record {
      listed = subst (λ (left : List WaitingRun). AreListedTo (map lists_of c.args.runs.items) c.args.topics [] (map lists_of left) c.args.topics) (sym items)
          (runs-listing (map lists_of c.args.runs.items) c.args.topics c.requires.waiting c.requires.none);
      len = omega (arith, gives.1, ap length items);
    }

pub loop-one-preserved : goal.loop-one-preserved
loop-one-preserved c =
    let at = c.loop-one in
    let one : WaitingRun = c.in-Some.one in
    let left = map lists_of (into_iter_items c.next.new.self) in
    record {
      listed = subst (λ (done : List RunLists). AreListedTo (map lists_of c.args.runs.items) c.args.topics done left c.list_run.new.topics)
          (sym (map-append lists_of at.yielded (one ∷ [])))
          (runs-more (here (goal.at.loop-one-preserved c).In-Some) c.in_ok-list_run.ensures.facts c.in_ok-list_run.ensures.none);
      len =
          let was = at.invariant.len in
          let gone = c.in-Some.ensures.steps.1 in
          let short = ap length c.in-Some.ensures.steps.0 in
          omega arith;
    }

pub list_run-requires-clause-as_many : goal.list_run-requires-clause-as_many
list_run-requires-clause-as_many c = (here (goal.at.list_run-requires-clause-as_many c).In-Some).come.each_long 0 (lists_of c.in-Some.one) (omega arith)

pub list_run-requires-clause-is_new : goal.list_run-requires-clause-is_new
list_run-requires-clause-is_new c = (here (goal.at.list_run-requires-clause-is_new c).In-Some).come.each_new.0

pub list_run-requires-clause-none : goal.list_run-requires-clause-none
list_run-requires-clause-none c = c.loop-one.invariant.listed.none

pub returns : goal.returns
returns c =
    let at = c.loop-one in
    let empty : into_iter_items at.one-iterator ≡ [] = nil_from_length _ (sym at.invariant.len ∙ c.in-None.ensures.steps.0) in
    let ended = subst
    (λ (left : List WaitingRun). AreListedTo (map lists_of c.args.runs.items) c.args.topics (map lists_of at.yielded) (map lists_of left) at.topics)
    empty at.invariant.listed in
    record { facts = runs-ended ended; none = ended.none }
