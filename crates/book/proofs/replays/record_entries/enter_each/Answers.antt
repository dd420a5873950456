-- The payloads that were entered so far.
use Rattle.std.proofs.Common.{◌≡◌, ℕ, Bool, true, false, List, Vec, [], ◌∷◌, ◌++◌, length, sym, ap, subst, ◌∙◌, arith}
use Rattle.std.specs.declared.alloc.Global.{Global}
use Rattle.std.specs.Vec.Iter.{into_iter_items}
use Rattle.std.proofs.lemmas.List.{append-nil, append_assoc, map-append, nil_from_length}
use Rattle.journal.specs.KeptRecords.{payloads as payloads_of}
use Rattle.rulebook.specs.Words.{Text}
use Rattle.book.specs.Opening.Replays.{EntersPayload, GoesOnWithRecords}
use Rattle.book.proofs.Payloads.PayloadEntries.{breaks_off, goes_none, goes_one}
use Rattle.book.proofs.replays.record_entries.enter_each.Goals.{In-Some}
use Rattle.book.proofs.replays.record_entries.enter_each.Goals as goal

pub loop-payload-init : goal.loop-payload-init
loop-payload-init c =
    let gives = c.into_iter-payload-iterator.ensures.into_iter_gives in
    let items : into_iter_items c.into_iter-payload-iterator.result ≡ c.args.payloads.items = gives.0 in
    record { left = items; len = omega (arith, gives.1, ap length items); added = goes_none c.args.replay.now }

-- the next payload stands between those that were entered and those that are left
split : (c : In-Some) → c.args.payloads.items ≡ c.loop-payload.yielded ++ c.in-Some.payload ∷ into_iter_items c.next.new.self
split c =
    let at = c.loop-payload in
    sym at.invariant.left ∙ ap (λ (left : List (Vec ℕ Global)). at.yielded ++ left) c.in-Some.ensures.steps.0

pub loop-payload-preserved : goal.loop-payload-preserved
loop-payload-preserved c =
    let at = c.loop-payload in
    let payload = c.in-Some.payload in
    let left = into_iter_items c.next.new.self in
    let next = c.enter_payload.new.replay in
    let here = (goal.at.loop-payload-preserved c).In-Some in
    let entered = subst (λ (entered : Bool). EntersPayload at.replay c.deref.result.now entered next) c.in-Ok-true.field-0-test c.in-Ok-true.ensures in
    let enters = subst (λ (bytes : Text). EntersPayload at.replay bytes true next) c.deref.ensures.value entered in
    record {
      left = append_assoc at.yielded (payload ∷ []) left ∙ sym (split here);
      len = let was = at.invariant.len in let gone = c.in-Some.ensures.steps.1 in let short = ap length c.in-Some.ensures.steps.0 in omega arith;
      added = subst (λ (p : List Text). GoesOnWithRecords c.args.replay.now p next) (sym (map-append (λ (p : Vec ℕ Global). p.items) at.yielded (payload ∷ [])))
          (goes_one c.args.replay.now at.replay next (payloads_of at.yielded) payload.items at.invariant.added enters);
    }

pub returns-in-Ok-false : goal.returns-in-Ok-false
returns-in-Ok-false c =
    let at = c.loop-payload in
    let payload = c.in-Some.payload in
    let left = into_iter_items c.next.new.self in
    let next = c.enter_payload.new.replay in
    let here = (goal.at.returns-in-Ok-false c).In-Some in
    let entered = subst (λ (entered : Bool). EntersPayload at.replay c.deref.result.now entered next) c.in-Ok-false.field-0-test c.in-Ok-false.ensures in
    let enters = subst (λ (bytes : Text). EntersPayload at.replay bytes false next) c.deref.ensures.value entered in
    let parts : payloads_of c.args.payloads.items ≡ payloads_of at.yielded ++ payload.items ∷ payloads_of left =
    ap payloads_of (split here) ∙ map-append (λ (p : Vec ℕ Global). p.items) at.yielded (payload ∷ left) in
    breaks_off c.args.replay.now at.replay next (payloads_of c.args.payloads.items) (payloads_of at.yielded) payload.items
    (payloads_of left) parts at.invariant.added enters

pub returns : goal.returns
returns c =
    let at = c.loop-payload in
    let empty : into_iter_items at.payload-iterator ≡ [] = nil_from_length _ (sym at.invariant.len ∙ c.in-None.ensures.steps.0) in
    let all : at.yielded ≡ c.args.payloads.items =
    sym (append-nil at.yielded) ∙ ap (λ (left : List (Vec ℕ Global)). at.yielded ++ left) (sym empty) ∙ at.invariant.left in
    subst (λ (p : List (Vec ℕ Global)). GoesOnWithRecords c.args.replay.now (payloads_of p) at.replay) all at.invariant.added
