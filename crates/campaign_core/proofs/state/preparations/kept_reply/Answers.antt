use Rattle.std.proofs.Common.{◌≡◌, ◌∙◌, None, Option, Some, ap, sym}
use Rattle.rulebook.specs.declared.reply.Reply.{Reply}
use Rattle.campaign_core.specs.Numbering.NumberedRequests.{numbers_of, place_of_number}
use Rattle.campaign_core.proofs.Numbers.UsedNumbers.{no-reply, reply-again, reply_by, used-at, within-at}
use Rattle.campaign_core.proofs.state.preparations.kept_reply.Goals as goal

pub returns-in_default-2 : goal.returns-in_default-2
returns-in_default-2 c =
    let H = c.args.history.now in
    let name = c.args.who.now.name in
    let none : place_of_number name c.in-Some.number (numbers_of H) ≡ None =
    ap (place_of_number name c.in-Some.number) (sym c.requires) ∙ sym c.in_ok-place.ensures ∙ c.in_default-2.is in
    no-reply H name c.in-Some.number c.args.number c.args.command.now c.in-Some.is none

pub overflow_sub-entry : goal.overflow_sub-entry
overflow_sub-entry c =
    let H = c.args.history.now in
    let name = c.args.who.now.name in
    let at : place_of_number name c.in-Some.number (numbers_of H) ≡ Some c.in-Some-2.place =
    ap (place_of_number name c.in-Some.number) (sym c.requires) ∙ sym c.in_ok-place.ensures ∙ c.in-Some-2.is in
    (used-at H name c.in-Some.number c.in-Some-2.place at).from_one

pub bounds-history-place : goal.bounds-history-place
bounds-history-place c =
    let H = c.args.history.now in
    let name = c.args.who.now.name in
    let at : place_of_number name c.in-Some.number (numbers_of H) ≡ Some c.in-Some-2.place =
    ap (place_of_number name c.in-Some.number) (sym c.requires) ∙ sym c.in_ok-place.ensures ∙ c.in-Some-2.is in
    within-at H name c.in-Some.number c.in-Some-2.place at

pub returns-then-not-is_same : goal.returns-then-not-is_same
returns-then-not-is_same c =
    let H = c.args.history.now in
    let name = c.args.who.now.name in
    let e = c.index-history-place.result in
    let place = c.in-Some-2.place in
    let at : place_of_number name c.in-Some.number (numbers_of H) ≡ Some place =
    ap (place_of_number name c.in-Some.number) (sym c.requires) ∙ sym c.in_ok-place.ensures ∙ c.in-Some-2.is in
    ap (λ t. let o : Option Reply = Some (reply_by t e place) in o) c.if-not-is_same.ensures
    ∙ reply-again H name c.in-Some.number place c.args.number c.args.command.now e c.in-Some.is at c.index-history-place.is

pub returns : goal.returns
returns c =
    let H = c.args.history.now in
    let name = c.args.who.now.name in
    let e = c.index-history-place.result in
    let place = c.in-Some-2.place in
    let at : place_of_number name c.in-Some.number (numbers_of H) ≡ Some place =
    ap (place_of_number name c.in-Some.number) (sym c.requires) ∙ sym c.in_ok-place.ensures ∙ c.in-Some-2.is in
    ap (λ (r : Reply). let o : Option Reply = Some r in o) c.in_ok-copy.ensures
    ∙ ap (λ t. let o : Option Reply = Some (reply_by t e place) in o) c.if-not-is_same.ensures
    ∙ reply-again H name c.in-Some.number place c.args.number c.args.command.now e c.in-Some.is at c.index-history-place.is
