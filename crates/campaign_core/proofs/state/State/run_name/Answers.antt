use Rattle.std.proofs.Common.{◌≡◌, ◌<◌, ◌∙◌, ℕ, List, [], Option, Some, ap, arith, get_or, length, rules, subst, sym, vec_len}
use Rattle.std.specs.Prelude.{slice_get}
use Rattle.std.specs.Option.{option_map, option_map_or}
use Rattle.std.proofs.lemmas.Option.{slice_get-get_or}
use Rattle.rulebook.specs.declared.entry.Entry.{Entry}
use Rattle.rulebook.specs.Campaign.{Run, run_in, runs}
use Rattle.campaign_core.specs.StateViews.{StateView}
use Rattle.campaign_core.specs.Views.Tallies.{submitted_at}
use Rattle.campaign_core.specs.declared.campaign.submissions.Submission.{Submission}
use Rattle.campaign_core.proofs.Numbers.RunPlaces.{IsSubmission, entry-at, entry-within, no_run, runs-many, some-within}
use Rattle.campaign_core.proofs.state.State.run_name.Goals as goal

pub index-requires-2 : goal.index-requires-2
index-requires-2 c =
    let s = c.self.inside in
    let H = s.campaign.history.items in
    let all = s.campaign.submissions.items in
    let there = some-within (runs c.args.self.now.history) c.args.run.0 c.requires in
    let long = ap (λ (seen : StateView). length (runs seen.history)) c.self.view_is in
    let many = runs-many H all c.self.invariant.known.submissions_are in
    let within : c.from.result < length all = omega (arith, there, long, many, c.from.ensures) in
    let placed : c.index.result.now.place < length H =
    subst (λ (one : Submission). one.place < length H) (sym c.index.ensures)
    (entry-within H all c.from.result c.index.result.now c.self.invariant.known.submissions_are within) in
    let counted : length H ≡ vec_len s.campaign.history = search rules in
    omega (arith, placed, counted)

pub returns : goal.returns
returns c =
    let s = c.self.inside in
    let H = s.campaign.history.items in
    let all = s.campaign.submissions.items in
    let there = some-within (runs c.args.self.now.history) c.args.run.0 c.requires in
    let long = ap (λ (seen : StateView). length (runs seen.history)) c.self.view_is in
    let many = runs-many H all c.self.invariant.known.submissions_are in
    let within : c.from.result < length all = omega (arith, there, long, many, c.from.ensures) in
    let e = c.index-2.result.now in
    let at : IsSubmission H c.from.result c.index.result.now.place e no_run =
    subst (λ (one : Submission). IsSubmission H c.from.result one.place e no_run) (sym c.index.ensures)
    (entry-at H all c.from.result c.index.result.now e no_run c.self.invariant.known.submissions_are within) in
    let run : Run = get_or (runs H) c.from.result no_run in
    let submits : run_in e.core.command ≡ Some run = ap (λ (e : Entry). run_in e.core.command) c.index-2.ensures ∙ at.run_is in
    let name_is : c.name_of.result.now ≡ run.name = c.name_of.ensures ∙ ap (λ (o : Option Run). option_map_or (λ run. run.name) o []) submits in
    let found : submitted_at c.args.self.now.history c.args.run ≡ Some run =
    ap (λ (seen : StateView). slice_get (runs seen.history) c.args.run.0) (sym c.self.view_is)
    ∙ ap (slice_get (runs H)) (sym c.from.ensures)
    ∙ slice_get-get_or (runs H) c.from.result no_run (omega (arith, within, many)) in
    ap (option_map (λ (run : Run). run.name)) found ∙ ap (λ (name : List ℕ). let o : Option (List ℕ) = Some name in o) (sym name_is)
