-- The entries that submit runs, and their places in the history.
use Rattle.std.specs.Prelude.{◌≡◌, ◌&&◌, ◌<◌, ◌≤◌, ℕ, Bool, IsTrue, false, true, List, None, Ok, Err, Option, Result, Some, filter, is_some, length, map, slice_get, vec_capacity, vec_len}
use Rattle.std.specs.List.{list_any, position}
use Rattle.std.specs.Option.{option_map_or}
use Rattle.std.specs.Str.{bytes_eq}
use Rattle.std.specs.declared.alloc.Global.{Global}
use Rattle.std.specs.declared.vec.Vec.{Vec}
use Rattle.depth_pool.specs.declared.runs.RunId.{RunId}
use Rattle.rulebook.specs.declared.ask.Command.TheVariants as command
use Rattle.rulebook.specs.declared.entry.Entry.{Entry}
use Rattle.rulebook.specs.declared.limits.TheConstants.{MAX_ENTRIES, MAX_RUNS}
use Rattle.rulebook.specs.declared.reply.Refusal.{Refusal}
use Rattle.rulebook.specs.declared.reply.Refusal.TheVariants as refusal
use Rattle.rulebook.specs.declared.rules.Caller.{Caller}
use Rattle.rulebook.specs.Words.{Text}
use Rattle.rulebook.specs.Answers.{run_refusals}
use Rattle.rulebook.specs.Campaign.{History, Run, is_taken, is_withdrawn, numbered_runs, run_in, runs, withdraws}
use Rattle.rulebook.specs.Histories.Legal.{IsAccepted}
use Rattle.rulebook.specs.Requests.Refusals.{Outcome, unless, unless_missing}
use Rattle.rulebook.specs.Reports.Scores.{run_named, submits}
use Rattle.rulebook.specs.Spelling.{differ}
use Rattle.campaign_core.specs.declared.campaign.submissions.Submission.{Submission}

-- whether an entry submits a run
abbrev pub is_submission : Entry → Bool
is_submission e = is_some (run_in e.core.command)

-- the entries that submit runs, by submission
abbrev pub submissions : History → List Entry
submissions H = filter is_submission H

-- these are the places of the entries that submit runs, by submission
abbrev pub ArePlaces : History → List ℕ → Type 0
ArePlaces H places = map (slice_get H) places ≡ map Some (submissions H)

abbrev pub entry_place : Submission → ℕ
entry_place one = one.place

-- which runs were withdrawn, by submission
abbrev pub withdrawals : History → List Bool
withdrawals H = map (λ run. is_withdrawn H run.name) (runs H)

-- These are the entries that submit runs, by submission, each with whether its run was withdrawn.
pub record AreSubmissions (H : History) (all : List Submission) : Type 0 where
  pub places_are : ArePlaces H (map entry_place all)
  pub withdrawn_are : map (λ one. one.is_withdrawn) all ≡ withdrawals H

abbrev pub with_withdrawal : Submission → Submission
with_withdrawal one = record one { is_withdrawn = true }

-- a run by its number of submission
abbrev pub run_id_of : ℕ × Run → RunId
run_id_of run = record { 0 = run.0 }

-- the numbers of the live runs, by submission
abbrev pub live_numbers : History → List RunId
live_numbers H = map run_id_of (numbered_runs H)

-- no two runs have one name, and each withdrawn run was submitted
pub record RunsAreKnown (H : History) : Type 0 where
  pub names_differ : IsTrue (differ (map (λ run. run.name) (runs H)))
  pub withdrawn_taken : (name : Text) → IsTrue (is_withdrawn H name) → IsTrue (is_taken H name)

-- This is the number of the run that an entry withdraws, if it withdraws one.
abbrev pub IsWithdrawnBy : History → Entry → Option RunId → Type 0
IsWithdrawnBy H e None = (name : Text) → withdraws name e.core.command ≡ false
IsWithdrawnBy H e (Some run) =
    (name : Text) × (e.core.command ≡ command.Withdraw name) × (Some run.0 ≡ position (λ run. bytes_eq run.name name) (runs H))

-- An entry may be noted: these are the submissions and the live runs of the history, with room for one more each, the
-- rules accept the entry, and this is the run that it withdraws.
pub record MayNote (H : History) (all : Vec Submission Global) (live : Vec RunId Global) (e : Entry) (withdrawn : Option RunId) : Type 0 where
  pub submissions : AreSubmissions H all.items
  pub room : vec_len all < vec_capacity all
  pub live_are : live.items ≡ live_numbers H
  pub live_room : vec_len live < vec_capacity live
  pub known : RunsAreKnown H
  pub accepted : IsAccepted H e
  pub few : length H < MAX_ENTRIES
  pub few_runs : length (runs H) ≤ MAX_RUNS
  pub withdrawn_is : IsWithdrawnBy H e withdrawn

-- whether an entry at one of the places passes a test
abbrev pub any_at : (Entry → Bool) → History → List ℕ → Bool
any_at passes H places = list_any (λ place. option_map_or passes (slice_get H place) false) places

-- whether an entry submits the run of a name for a caller
abbrev pub is_submitted_by : Text → Text → Entry → Bool
is_submitted_by caller name e = submits name e && bytes_eq e.core.caller.name caller

-- what the rules say of a run that a caller names
abbrev pub asked_run : History → Caller → Text → (Run → Outcome) → Outcome
asked_run H who name on = unless_missing (run_named H name) refusal.UnknownRun (λ run. unless (run_refusals H who name) (on run))

-- the number of a live run of a name, in which a caller has a part
pub record IsRunOf (H : History) (who : Caller) (name : Text) (number : ℕ) : Type 0 where
  pub run : Run
  pub there : slice_get (runs H) number ≡ Some run
  pub name_is : run.name ≡ name
  pub first : Some number ≡ position (λ run. bytes_eq run.name name) (runs H)
  pub live : is_withdrawn H name ≡ false
  pub asked : (on : Run → Outcome) → asked_run H who name on ≡ on run

-- The number of the run that a caller names; or why the caller has no part in one, which the rules tell whatever is asked of it.
abbrev pub IsRunAsked : History → Caller → Text → Result ℕ Refusal → Type 0
IsRunAsked H who name (Err why) = (on : Run → Outcome) → asked_run H who name on ≡ Err why
IsRunAsked H who name (Ok number) = IsRunOf H who name number
