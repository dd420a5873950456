-- The cores that were entered so far.
use Rattle.std.proofs.Common.{◌≡◌, Bool, true, false, List, [], ◌∷◌, ◌++◌, length, sym, ap, subst, ◌∙◌, arith}
use Rattle.std.specs.Vec.Iter.{into_iter_items}
use Rattle.std.proofs.lemmas.List.{append-nil, append_assoc, nil_from_length}
use Rattle.rulebook.specs.declared.entry.EntryCore.{EntryCore}
use Rattle.book.specs.Opening.Replays.{AreFit, Enters}
use Rattle.book.specs.Stories.{cores_of}
use Rattle.book.proofs.Payloads.PayloadEntries.{cores_more, cores_none, stops_in}
use Rattle.book.proofs.replays.record_entries.enter_cores.Goals.{In-Some}
use Rattle.book.proofs.replays.record_entries.enter_cores.Goals as goal

pub loop-core-init : goal.loop-core-init
loop-core-init c =
    let gives = c.into_iter-core-iterator.ensures.into_iter_gives in
    let items : into_iter_items c.into_iter-core-iterator.result ≡ c.args.cores.items = gives.0 in
    record { left = items; len = omega (arith, gives.1, ap length items); fit = subst AreFit (sym items) c.requires.fit; added = cores_none c.args.replay.now }

-- the next core has a spelling with room in a record
fits : (c : In-Some) → AreFit (c.in-Some.core ∷ into_iter_items c.next.new.self)
fits c = subst AreFit c.in-Some.ensures.steps.0 c.loop-core.invariant.fit

whole : (c : In-Some) → (c.loop-core.yielded ++ c.in-Some.core ∷ []) ++ into_iter_items c.next.new.self ≡ c.args.cores.items
whole c =
    let at = c.loop-core in
    append_assoc at.yielded (c.in-Some.core ∷ []) (into_iter_items c.next.new.self)
    ∙ ap (λ (left : List EntryCore). at.yielded ++ left) (sym c.in-Some.ensures.steps.0) ∙ at.invariant.left

pub enter-requires-clause-spelled : goal.enter-requires-clause-spelled
enter-requires-clause-spelled c = (fits (goal.at.enter-requires-clause-spelled c).In-Some).0

pub enter-requires-clause-short : goal.enter-requires-clause-short
enter-requires-clause-short c = (fits (goal.at.enter-requires-clause-short c).In-Some).1

pub loop-core-preserved : goal.loop-core-preserved
loop-core-preserved c =
    let at = c.loop-core in
    let core = c.in-Some.core in
    let next = c.enter.new.replay in
    let here = (goal.at.loop-core-preserved c).In-Some in
    let enters : Enters at.replay core true next =
    subst (λ (entered : Bool). Enters at.replay core entered next) c.in-Ok-true.field-0-test c.in-Ok-true.ensures in
    record {
      left = whole here;
      len = let was = at.invariant.len in let gone = c.in-Some.ensures.steps.1 in let short = ap length c.in-Some.ensures.steps.0 in omega arith;
      fit = (fits here).2;
      added = cores_more c.args.replay.now at.replay next at.yielded core at.invariant.added enters;
    }

pub returns-in-Ok-false : goal.returns-in-Ok-false
returns-in-Ok-false c =
    let at = c.loop-core in
    let core = c.in-Some.core in
    let next = c.enter.new.replay in
    let here = (goal.at.returns-in-Ok-false c).In-Some in
    let enters : Enters at.replay core false next =
    subst (λ (entered : Bool). Enters at.replay core entered next) c.in-Ok-false.field-0-test c.in-Ok-false.ensures in
    let left = into_iter_items c.next.new.self in
    stops_in c.args.replay.now at.replay next c.args.cores.items at.yielded core left
    (sym (whole here) ∙ append_assoc at.yielded (core ∷ []) left) at.invariant.added enters

pub returns : goal.returns
returns c =
    let at = c.loop-core in
    let empty : into_iter_items at.core-iterator ≡ [] = nil_from_length _ (sym at.invariant.len ∙ c.in-None.ensures.steps.0) in
    let all : at.yielded ≡ c.args.cores.items =
    sym (append-nil at.yielded) ∙ ap (λ (left : List EntryCore). at.yielded ++ left) (sym empty) ∙ at.invariant.left in
    at.invariant.added ∙ ap (λ (cores : List EntryCore). cores_of c.args.replay.now ++ cores) all
