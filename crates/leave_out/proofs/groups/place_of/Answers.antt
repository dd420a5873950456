use Rattle.std.proofs.Common.{◌≡◌, ◌++◌, ◌∷◌, ◌∙◌, [], List, Option, Some, ap, length, rules, subst, sym, vec_len}
use Rattle.std.specs.Prelude.{All, slice_get}
use Rattle.std.specs.Option.{option_map}
use Rattle.std.proofs.lemmas.List.Elements.{All-push}
use Rattle.decimal_rank.proofs.Lists.{slice-last}
use Rattle.rulebook.specs.Words.{Text}
use Rattle.leave_out.specs.ReducedJudgements.{AreOfGroup, group_in}
use Rattle.leave_out.specs.declared.groups.GroupJudgements.{GroupJudgements}
use Rattle.leave_out.proofs.Reductions.GroupPlaces.{group-found}
use Rattle.leave_out.proofs.groups.place_of.Goals as goal

pub returns-in-Some-clause-place : goal.returns-in-Some-clause-place
returns-in-Some-clause-place c =
    ap (λ (groups : List GroupJudgements). option_map group_in (slice_get groups c.in-Some.place)) (sym c.deref.ensures.value)
    ∙ group-found c.deref.result.now c.args.group.now c.in-Some.place (sym c.place_among.ensures ∙ c.in-Some.is)

pub returns-clause-reduced : goal.returns-clause-reduced
returns-clause-reduced c =
    subst (All (AreOfGroup c.args.state.now.history)) (sym c.in_ok-push.ensures.items)
    (All-push (AreOfGroup c.args.state.now.history) c.args.groups.now.items c.in_ok-judgements.judgements c.requires c.in_ok-judgements.ensures.reduced)

pub returns-clause-place : goal.returns-clause-place
returns-clause-place c =
    let groups : List GroupJudgements = c.args.groups.now.items in
    let one : GroupJudgements = c.in_ok-judgements.judgements in
    let counted : length groups ≡ vec_len c.args.groups.now = search rules in
    let place_is : c.len-place.result ≡ length groups = c.len-place.ensures ∙ sym counted in
    ap (λ (groups : List GroupJudgements). option_map group_in (slice_get groups c.len-place.result)) c.in_ok-push.ensures.items
    ∙ ap (λ place. option_map group_in (slice_get (groups ++ one ∷ []) place)) place_is
    ∙ ap (option_map group_in) (slice-last groups one)
    ∙ ap (λ (group : Text). let o : Option Text = Some group in o) c.in_ok-judgements.ensures.group
