-- The entries that submit runs, and which of the runs were withdrawn, after one more entry.
use Rattle.std.proofs.Common.{◌≡◌, ◌||◌, ◌<◌, ℕ, Bool, true, false, List, [], ◌∷◌, ◌++◌, Option, None, Some, is_some, length, map, get_or, set, refl, sym, ap, subst, arith, ◌∙◌, ◌↔◌, inl, inr}
use Rattle.std.specs.Prelude.{if◌then◌else◌}
use Rattle.std.specs.List.{position}
use Rattle.std.specs.Str.{bytes_eq}
use Rattle.std.proofs.lemmas.List.{map-append, get_or-map}
use Rattle.decimal_rank.proofs.Lists.{map-alike}
use Rattle.assessment.specs.TopicsFacts.{at_place}
use Rattle.rulebook.specs.declared.ask.Command.{Command}
use Rattle.rulebook.specs.declared.ask.Command.TheVariants as command
use Rattle.rulebook.specs.declared.entry.Entry.{Entry}
use Rattle.rulebook.specs.Campaign.{History, Run, is_withdrawn, run_in, runs, withdraws}
use Rattle.rulebook.specs.Histories.Legal.{IsAccepted}
use Rattle.rulebook.specs.Words.{Text}
use Rattle.campaign_core.specs.Numbering.Submissions.{ArePlaces, AreSubmissions, RunsAreKnown, entry_place, with_withdrawal, IsWithdrawnBy}
use Rattle.campaign_core.specs.declared.campaign.submissions.Submission.{Submission}
use Rattle.campaign_core.proofs.Lists.Elements.{get-map, map-at_place, map-at_same}
use Rattle.campaign_core.proofs.Entries.Runs.LiveRuns.{none-withdrawn, number-place, withdrawals-set, withdrawn-push}
use Rattle.campaign_core.proofs.Entries.Runs.RunNames.{not-withdrawn}
use Rattle.campaign_core.proofs.Rulings.RunRulings.{run-found}
use Rattle.campaign_core.proofs.Entries.PhaseSteps.{no-run, one-run}
use Rattle.campaign_core.proofs.Numbers.RunPlaces.{no_run, places-grow, places-stay, runs-many}
use Rattle.campaign_core.proofs.Rulings.AcceptedEntries.{ruled_ok, submit-by, submit-told}
use Rattle.assessment.specs.TopicFacts.{TopicFacts}
use Rattle.assessment.specs.declared.change.Change.{Change}
use Rattle.assessment.specs.declared.change.Change.TheVariants as change
use Rattle.depth_pool.specs.declared.runs.RunId.{RunId}
use Rattle.lease_desk.specs.declared.leases.Lease.{Lease as DeskLease}
use Rattle.campaign_core.specs.Commands.Changes.{CarriesOut}

abbrev flag : Submission → Bool
flag one = one.is_withdrawn

same-flags : (H J : History) (rs : List Run) → ((name : Text) → is_withdrawn J name ≡ is_withdrawn H name)
    → map (λ (run : Run). is_withdrawn J run.name) rs ≡ map (λ (run : Run). is_withdrawn H run.name) rs
same-flags H J rs withdrawn_are = map-alike (λ (run : Run). is_withdrawn J run.name) (λ (run : Run). is_withdrawn H run.name) rs (λ run. withdrawn_are run.name)

-- the entries that submit runs, after one more entry with a command that withdraws none
abbrev pub submissions_with : Command → ℕ → List Submission → List Submission
submissions_with command place all = if is_some (run_in command) then all ++ record { place = place; is_withdrawn = false } ∷ [] else all

module _ (H : History) (e : Entry) (known : RunsAreKnown H) (accepted : IsAccepted H e) (all : List Submission) (are : AreSubmissions H all) where
  abbrev J : History
  J = H ++ e ∷ []

  -- an entry that withdraws none
  pub noted : ((name : Text) → withdraws name e.core.command ≡ false) → AreSubmissions J (submissions_with e.core.command (length H) all)
  noted none = step (run_in e.core.command) refl
    where
      withdrawn_are : (name : Text) → is_withdrawn J name ≡ is_withdrawn H name
      withdrawn_are = none-withdrawn H e none

      step : (o : Option Run) → run_in e.core.command ≡ o
          → AreSubmissions J (if is_some (run_in e.core.command) then all ++ record { place = length H; is_withdrawn = false } ∷ [] else all)
      step None is = rw is (record {
        places_are = places-stay H e (map entry_place all) is are.places_are;
        withdrawn_are = are.withdrawn_are
            ∙ sym (ap (map (λ (run : Run). is_withdrawn J run.name)) (no-run H e is)
            ∙ same-flags H J (runs H) withdrawn_are);
      })
      step (Some run) is =
          let new : Submission = record { place = length H; is_withdrawn = false } in
          let free = (submit-told H run.name run.lists e.reply (rw (submit-by e.core.command run is) at (ruled_ok H e accepted))).0 in
          let live : is_withdrawn J run.name ≡ false = withdrawn_are run.name ∙ not-withdrawn H run.name known free in
          rw is (record {
            places_are = subst (λ places. ArePlaces J places) (sym (map-append entry_place all (new ∷ [])))
                (places-grow H e (map entry_place all) run is are.places_are);
            withdrawn_are =
                map-append flag all (new ∷ [])
                ∙ ap (λ bs. bs ++ false ∷ []) (are.withdrawn_are ∙ sym (same-flags H J (runs H) withdrawn_are))
                ∙ ap (λ b. map (λ (run : Run). is_withdrawn J run.name) (runs H) ++ b ∷ []) (sym live)
                ∙ sym (map-append (λ (run : Run). is_withdrawn J run.name) (runs H) (run ∷ []))
                ∙ ap (map (λ (run : Run). is_withdrawn J run.name)) (sym (one-run H e run is));
          })

  -- an entry that withdraws a run
  pub noted-withdrawn : (name : Text) → e.core.command ≡ command.Withdraw name → (number : ℕ)
      → Some number ≡ position (λ (run : Run). bytes_eq run.name name) (runs H) → AreSubmissions J (at_place number with_withdrawal all)
  noted-withdrawn name command_is number first = record {
    places_are = subst (λ places. ArePlaces J places) (sym (map-at_same entry_place with_withdrawal all number (λ one. refl)))
        (places-stay H e (map entry_place all) (ap run_in command_is) are.places_are);
    withdrawn_are =
        map-at_place flag with_withdrawal all number (record { place = 0; is_withdrawn = false })
        ∙ ap (λ bs. set bs number true) are.withdrawn_are
        ∙ sym (withdrawals-set H J name number (no-run H e (ap run_in command_is))
        (λ other. withdrawn-push H e other ∙ ap (λ c. is_withdrawn H other || withdraws other c) command_is)
        known.names_differ (number-place H name number first));
  }

-- the number of a run is one of a submission
pub noted-within : (H : History) (all : List Submission) (name : Text) (number : ℕ) → AreSubmissions H all
    → Some number ≡ position (λ (run : Run). bytes_eq run.name name) (runs H) → number < length all
noted-within H all name number are first = omega (arith, (run-found H name number first).within, runs-many H all are)

-- a change tells the run that its entry withdraws
pub withdrawn-by : (H : History) (names : List Text) (topics : List TopicFacts) (desk : List DeskLease) (e : Entry) (made : Change) (told : Option RunId)
    → CarriesOut H names topics desk e made → ((run : RunId) → (told ≡ Some run) ↔ (made ≡ change.Withdraw run)) → IsWithdrawnBy H e told
withdrawn-by H names topics desk e made (Some run) carries is = subst (CarriesOut H names topics desk e) ((is run).0 refl) carries
withdrawn-by H names topics desk e change.Nothing None (inl open_is) is = λ name. ap (withdraws name) open_is
withdrawn-by H names topics desk e change.Nothing None (inr publish_is) is = λ name. ap (withdraws name) publish_is
withdrawn-by H names topics desk e (change.Topics made) None carries is = λ name. ap (withdraws name) carries.1
withdrawn-by H names topics desk e (change.Run run lists) None carries is = λ name. ap (withdraws name) carries.2
withdrawn-by H names topics desk e (change.Withdraw run) None carries is =
    let none : (let none : Option RunId = None in none) ≡ Some run = (is run).1 refl in cc none
withdrawn-by H names topics desk e (change.Lease grant) None carries is = λ name. ap (withdraws name) carries.command_is.1
withdrawn-by H names topics desk e (change.Grade number label) None carries is = λ name. ap (withdraws name) carries.command_is
withdrawn-by H names topics desk e (change.Release number) None carries is = λ name. ap (withdraws name) carries.0
withdrawn-by H names topics desk e (change.Amend label) None carries is = λ name. ap (withdraws name) carries.2
withdrawn-by H names topics desk e (change.Rule ruling) None carries is = λ name. ap (withdraws name) carries.2

-- whether the run of a name was withdrawn, by its number
pub flag-at : (H : History) (all : List Submission) (name : Text) (number : ℕ) (d : Submission) → AreSubmissions H all
    → Some number ≡ position (λ (run : Run). bytes_eq run.name name) (runs H)
    → (get_or all number d).is_withdrawn ≡ is_withdrawn H name
flag-at H all name number d are is =
    let found = run-found H name number is in
    sym (get-map flag all number d)
    ∙ ap (λ bs. get_or bs number (flag d)) are.withdrawn_are
    ∙ get_or-map (λ (run : Run). is_withdrawn H run.name) (runs H) number no_run (flag d) found.within
    ∙ ap (is_withdrawn H) found.name_is

-- whether the run of a number was withdrawn
pub flag-there : (H : History) (all : List Submission) (number : ℕ) (d : Submission) → AreSubmissions H all
    → number < length all → (get_or all number d).is_withdrawn ≡ is_withdrawn H (get_or (runs H) number no_run).name
flag-there H all number d are within =
    sym (get-map flag all number d)
    ∙ ap (λ bs. get_or bs number (flag d)) are.withdrawn_are
    ∙ get_or-map (λ (run : Run). is_withdrawn H run.name) (runs H) number no_run (flag d) (omega (arith, within, runs-many H all are))
