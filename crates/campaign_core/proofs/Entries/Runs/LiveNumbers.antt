-- The numbers of the live runs after one more entry.
use Rattle.std.proofs.Common.{◌≡◌, ◌||◌, ◌==◌, ◌∙◌, ℕ, false, not, List, [], ◌∷◌, ◌++◌, Option, None, Some, ap, filter, is_some, length, map, refl, sym}
use Rattle.std.specs.Prelude.{if◌then◌else◌}
use Rattle.std.specs.List.{position}
use Rattle.std.specs.Str.{bytes_eq}
use Rattle.std.proofs.lemmas.List.{map-append}
use Rattle.depth_pool.specs.declared.runs.RunId.{RunId}
use Rattle.rulebook.specs.declared.ask.Command.{Command}
use Rattle.rulebook.specs.declared.ask.Command.TheVariants as command
use Rattle.rulebook.specs.declared.entry.Entry.{Entry}
use Rattle.rulebook.specs.Campaign.{History, Run, is_withdrawn, numbered_runs, run_in, runs, withdraws}
use Rattle.rulebook.specs.Histories.Legal.{IsAccepted}
use Rattle.rulebook.specs.Words.{Text}
use Rattle.campaign_core.specs.Numbering.Submissions.{RunsAreKnown, live_numbers, run_id_of}
use Rattle.campaign_core.proofs.Entries.Runs.LiveRuns.{none-withdrawn, number-place, numbered-fewer, numbered-more, numbered-stays, withdrawn-push}
use Rattle.campaign_core.proofs.Entries.Runs.RunNames.{not-withdrawn}
use Rattle.campaign_core.proofs.Entries.PhaseSteps.{no-run, one-run}
use Rattle.campaign_core.proofs.Lists.Elements.{filter-map}
use Rattle.campaign_core.proofs.Rulings.AcceptedEntries.{ruled_ok, submit-by, submit-told}

-- the live runs after one more entry with a command that withdraws none
abbrev pub live_with : Command → ℕ → List RunId → List RunId
live_with command number live = if is_some (run_in command) then live ++ record { 0 = number } ∷ [] else live

module _ (H : History) (e : Entry) (known : RunsAreKnown H) (accepted : IsAccepted H e) where
  abbrev J : History
  J = H ++ e ∷ []

  -- an entry that withdraws none
  pub live-noted : ((name : Text) → withdraws name e.core.command ≡ false) → live_with e.core.command (length (runs H)) (live_numbers H) ≡ live_numbers J
  live-noted none = step (run_in e.core.command) refl
    where
      withdrawn_are : (name : Text) → is_withdrawn J name ≡ is_withdrawn H name
      withdrawn_are = none-withdrawn H e none

      step : (o : Option Run) → run_in e.core.command ≡ o → live_with e.core.command (length (runs H)) (live_numbers H) ≡ live_numbers J
      step None is = rw is (sym (ap (map run_id_of) (numbered-stays H J (no-run H e is) withdrawn_are)))
      step (Some run) is =
          let free = (submit-told H run.name run.lists e.reply (rw (submit-by e.core.command run is) at (ruled_ok H e accepted))).0 in
          let more = numbered-more H J run (one-run H e run is) withdrawn_are (not-withdrawn H run.name known free) in
          rw is (sym (ap (map run_id_of) more ∙ map-append run_id_of (numbered_runs H) ((length (runs H), run) ∷ [])))

  -- an entry that withdraws a run
  pub live-withdrawn : (name : Text) → e.core.command ≡ command.Withdraw name → (number : ℕ)
      → Some number ≡ position (λ (run : Run). bytes_eq run.name name) (runs H)
      → filter (λ run. not (run.0 == number)) (live_numbers H) ≡ live_numbers J
  live-withdrawn name command_is number first =
      sym (ap (map run_id_of)
      (numbered-fewer H J name number (no-run H e (ap run_in command_is))
      (λ other. withdrawn-push H e other ∙ ap (λ c. is_withdrawn H other || withdraws other c) command_is)
      known.names_differ (number-place H name number first))
      ∙ filter-map (λ (run : RunId). not (run.0 == number)) run_id_of (numbered_runs H))

-- the numbers by themselves
pub plain-numbers : (ps : List (ℕ × Run)) → map (λ (run : RunId). run.0) (map run_id_of ps) ≡ map (λ (p : ℕ × Run). p.0) ps
plain-numbers [] = refl
plain-numbers (p ∷ ps) = ap (λ ns. p.0 ∷ ns) (plain-numbers ps)
