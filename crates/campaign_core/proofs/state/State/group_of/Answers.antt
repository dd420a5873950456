use Rattle.std.proofs.Common.{◌≡◌, ◌<◌, ◌∙◌, ap, arith, length, rules, subst, sym, vec_len}
use Rattle.rulebook.specs.declared.entry.Entry.{Entry}
use Rattle.rulebook.specs.Campaign.{runs}
use Rattle.campaign_core.specs.Views.Groups.{group_of}
use Rattle.campaign_core.specs.StateViews.{StateView}
use Rattle.campaign_core.specs.declared.campaign.submissions.Submission.{Submission}
use Rattle.campaign_core.proofs.Numbers.RunGroups.{group-at}
use Rattle.campaign_core.proofs.Numbers.RunPlaces.{IsSubmission, entry-at, entry-within, no_run, runs-long, runs-many, some-within}
use Rattle.campaign_core.proofs.state.State.group_of.Goals as goal

pub index-requires-2 : goal.index-requires-2
index-requires-2 c =
    let s = c.self.inside in
    let H = s.campaign.history.items in
    let all = s.campaign.submissions.items in
    let there = some-within (runs c.args.self.now.history) c.args.run.0 c.requires in
    let long = ap (λ (seen : StateView). length (runs seen.history)) c.self.view_is in
    let many = runs-many H all c.self.invariant.known.submissions_are in
    let within : c.from.result < length all = omega (arith, there, long, many, c.from.ensures) in
    let placed : c.index.result.now.place < length H =
    subst (λ (one : Submission). one.place < length H) (sym c.index.ensures)
    (entry-within H all c.from.result c.index.result.now c.self.invariant.known.submissions_are within) in
    let counted : length H ≡ vec_len s.campaign.history = search rules in
    omega (arith, placed, counted)

pub returns : goal.returns
returns c =
    let s = c.self.inside in
    let H = s.campaign.history.items in
    let all = s.campaign.submissions.items in
    let there = some-within (runs c.args.self.now.history) c.args.run.0 c.requires in
    let long = ap (λ (seen : StateView). length (runs seen.history)) c.self.view_is in
    let many = runs-many H all c.self.invariant.known.submissions_are in
    let within : c.from.result < length all = omega (arith, there, long, many, c.from.ensures) in
    let e = c.index-2.result.now in
    let at : IsSubmission H c.from.result c.index.result.now.place e no_run =
    subst (λ (one : Submission). IsSubmission H c.from.result one.place e no_run) (sym c.index.ensures)
    (entry-at H all c.from.result c.index.result.now e no_run c.self.invariant.known.submissions_are within) in
    let is : c.bytes.result.now ≡ group_of H c.from.result =
    c.bytes.ensures
    ∙ ap (λ (e : Entry). e.core.caller.name) (c.index-2.ensures ∙ at.entry_is)
    ∙ sym (group-at H c.from.result e (omega (arith, within, many, runs-long H))) in
    subst (λ (seen : StateView). c.bytes.result.now ≡ group_of seen.history c.args.run.0) c.self.view_is (is ∙ ap (group_of H) c.from.ensures)
