use Rattle.std.proofs.Common.{◌≡◌, ◌++◌, ◌∷◌, ◌∙◌, ◌==◌, [], ap, arith, filter, length, not, subst, sym, ℕ, List, false, ◌<◌, Option, Some, None, refl}
use Rattle.std.specs.Prelude.{if◌then◌else◌}
use Rattle.std.proofs.lemmas.List.{with_items_is}
use Rattle.assessment.specs.TopicsFacts.{at_place}
use Rattle.depth_pool.specs.declared.runs.RunId.{RunId}
use Rattle.rulebook.specs.Campaign.{runs, History, withdraws}
use Rattle.campaign_core.specs.Numbering.Submissions.{AreSubmissions, IsWithdrawnBy, live_numbers, with_withdrawal}
use Rattle.campaign_core.proofs.Entries.Runs.LiveNumbers.{live-noted, live-withdrawn}
use Rattle.campaign_core.proofs.Entries.Runs.WithdrawalSteps.{noted, noted-within, noted-withdrawn}
use Rattle.campaign_core.proofs.Numbers.RunPlaces.{runs-many}
use Rattle.campaign_core.proofs.campaign.submissions.note_run.Goals as goal
use Rattle.rulebook.specs.declared.entry.Entry.{Entry}
use Rattle.rulebook.specs.Words.{Text}

none-leaves : (H : History) (e : Entry) (leaving : Option RunId) → ((run : RunId) → leaving ≡ Some run → ⊥) → IsWithdrawnBy H e leaving
    → (name : Text) → withdraws name e.core.command ≡ false
none-leaves H e None other is = is
none-leaves H e (Some run) other is = absurd (other run refl)

pub note_withdrawal-requires : goal.note_withdrawal-requires
note_withdrawal-requires c =
    let H = c.args.history.now in
    let all = c.args.submissions.now.items in
    let is = subst (IsWithdrawnBy H c.args.entry.now) c.in-Some.is c.requires.withdrawn_is in
    subst (λ items. c.in-Some.run'.0 < length items) (sym c.deref_mut.ensures.value)
    (noted-within H all is.0 c.in-Some.run'.0 c.requires.submissions is.2)

pub returns-in-Some-clause-submissions : goal.returns-in-Some-clause-submissions
returns-in-Some-clause-submissions c =
    let H = c.args.history.now in
    let e = c.args.entry.now in
    let is = subst (IsWithdrawnBy H e) c.in-Some.is c.requires.withdrawn_is in
    let new = c.note_withdrawal.new.submissions in
    let long : length new ≡ c.args.submissions.now.len = c.note_withdrawal.auto.submissions ∙ c.deref_mut.ensures.len in
    subst (AreSubmissions (H ++ e ∷ [])) (sym (with_items_is c.args.submissions.now new long
    ∙ c.note_withdrawal.ensures ∙ ap (at_place c.in-Some.run'.0 with_withdrawal) c.deref_mut.ensures.value))
    (noted-withdrawn H e c.requires.known c.requires.accepted c.args.submissions.now.items c.requires.submissions is.0 is.1 c.in-Some.run'.0 is.2)

pub returns-in-Some-clause-live : goal.returns-in-Some-clause-live
returns-in-Some-clause-live c =
    let H = c.args.history.now in
    let e = c.args.entry.now in
    let is = subst (IsWithdrawnBy H e) c.in-Some.is c.requires.withdrawn_is in
    c.take_out.ensures
    ∙ ap (filter (λ (other : RunId). not (other.0 == c.in-Some.run'.0))) c.requires.live_are
    ∙ live-withdrawn H e c.requires.known c.requires.accepted is.0 is.1 c.in-Some.run'.0 is.2

pub returns-then-submits_run-clause-submissions : goal.returns-then-submits_run-clause-submissions
returns-then-submits_run-clause-submissions c =
    let H = c.args.history.now in
    let e = c.args.entry.now in
    let all = c.args.submissions.now.items in
    subst (AreSubmissions (H ++ e ∷ []))
    (ap (λ t. if t then all ++ record { place = length H; is_withdrawn = false } ∷ [] else all) (sym c.if-submits_run.ensures)
    ∙ sym c.push_reserved-then-submits_run.ensures.items)
    (noted H e c.requires.known c.requires.accepted all c.requires.submissions (none-leaves H e c.args.leaving c.in_default.not-Some c.requires.withdrawn_is))

pub returns-else-submits_run-clause-submissions : goal.returns-else-submits_run-clause-submissions
returns-else-submits_run-clause-submissions c =
    let H = c.args.history.now in
    let e = c.args.entry.now in
    let all = c.args.submissions.now.items in
    subst (AreSubmissions (H ++ e ∷ []))
    (ap (λ t. if t then all ++ record { place = length H; is_withdrawn = false } ∷ [] else all) (sym c.if-submits_run.ensures))
    (noted H e c.requires.known c.requires.accepted all c.requires.submissions (none-leaves H e c.args.leaving c.in_default.not-Some c.requires.withdrawn_is))

pub returns-then-submits_run-clause-live : goal.returns-then-submits_run-clause-live
returns-then-submits_run-clause-live c =
    let H = c.args.history.now in
    let e = c.args.entry.now in
    let many : c.len.result ≡ length (runs H) =
    omega (arith, runs-many H c.args.submissions.now.items c.requires.submissions, c.len.ensures, c.args.submissions.now.ok.0) in
    c.push_reserved.ensures.items
    ∙ ap (λ (live : List RunId). live ++ (let run : RunId = record { 0 = c.len.result } in run) ∷ []) c.requires.live_are
    ∙ ap (λ (n : ℕ). live_numbers H ++ (let run : RunId = record { 0 = n } in run) ∷ []) many
    ∙ ap (λ t. if t then live_numbers H ++ record { 0 = length (runs H) } ∷ [] else live_numbers H) c.if-submits_run.ensures
    ∙ live-noted H e c.requires.known c.requires.accepted (none-leaves H e c.args.leaving c.in_default.not-Some c.requires.withdrawn_is)

pub returns-else-submits_run-clause-live : goal.returns-else-submits_run-clause-live
returns-else-submits_run-clause-live c =
    let H = c.args.history.now in
    let e = c.args.entry.now in
    c.requires.live_are
    ∙ ap (λ t. if t then live_numbers H ++ record { 0 = length (runs H) } ∷ [] else live_numbers H) c.if-submits_run.ensures
    ∙ live-noted H e c.requires.known c.requires.accepted (none-leaves H e c.args.leaving c.in_default.not-Some c.requires.withdrawn_is)
