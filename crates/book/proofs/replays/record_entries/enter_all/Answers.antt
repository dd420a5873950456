-- The payloads that were entered so far.
use Rattle.std.proofs.Common.{◌≡◌, ℕ, Bool, true, false, List, Vec, length, take, subst, arith}
use Rattle.std.specs.declared.alloc.Global.{Global}
use Rattle.std.proofs.lemmas.List.{length-map, take_all}
use Rattle.rulebook.specs.Words.{Text}
use Rattle.journal.specs.KeptRecords.{payloads as payloads_of}
use Rattle.book.specs.Opening.Replays.{EntersPayload, GoesOnWithRecords}
use Rattle.book.proofs.Payloads.PayloadEntries.{breaks_here, goes_more, goes_none}
use Rattle.book.proofs.replays.record_entries.enter_all.Goals as goal

pub loop-place-init : goal.loop-place-init
loop-place-init c = goes_none c.args.replay.now

pub returns-in-Ok-false : goal.returns-in-Ok-false
returns-in-Ok-false c =
    let now = c.loop-place.replay in
    let next = c.enter_payload.new.replay in
    let at = subst (λ (entered : Bool). EntersPayload now c.deref.result.now entered next) c.in-Ok-false.field-0-test c.in-Ok-false.ensures in
    let enters = subst (λ (bytes : Text). EntersPayload now bytes false next) c.deref.ensures.value at in
    breaks_here c.args.payloads.now c.loop-place.place c.index-payloads-place.result
    (omega arith) c.index-payloads-place.is c.args.replay.now now next c.loop-place.invariant enters

pub loop-place-preserved : goal.loop-place-preserved
loop-place-preserved c =
    let now = c.loop-place.replay in
    let next = c.enter_payload.new.replay in
    let at = subst (λ (entered : Bool). EntersPayload now c.deref.result.now entered next) c.in-Ok-true.field-0-test c.in-Ok-true.ensures in
    let enters = subst (λ (bytes : Text). EntersPayload now bytes true next) c.deref.ensures.value at in
    goes_more c.args.payloads.now c.loop-place.place c.index-payloads-place.result
    (omega arith) c.index-payloads-place.is c.args.replay.now now next c.loop-place.invariant enters

pub returns : goal.returns
returns c =
    let ended : c.loop-place.place ≡ length c.args.payloads.now = omega arith in
    let whole : take c.loop-place.place (payloads_of c.args.payloads.now) ≡ payloads_of c.args.payloads.now =
    take_all c.loop-place.place (payloads_of c.args.payloads.now) (omega (arith, ended, length-map c.args.payloads.now (λ (p : Vec ℕ Global). p.items))) in
    subst (λ (all : List Text). GoesOnWithRecords c.args.replay.now all c.loop-place.replay) whole c.loop-place.invariant
