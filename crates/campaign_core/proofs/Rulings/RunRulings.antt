-- The run that a caller names, and what the rules say of it.
use Rattle.std.proofs.Common.{◌≡◌, ◌<◌, ℕ, Bool, true, false, cond, [], ◌∷◌, Option, None, Some, Ok, Err, is_some, length, get_or, ltb, refl, sym, ap, ◌∙◌, arith}
use Rattle.std.specs.Prelude.{◌&&◌, not, slice_get}
use Rattle.std.specs.List.{position, position_or_len}
use Rattle.std.specs.Str.{bytes_eq}
use Rattle.std.proofs.lemmas.Bool.{ltb-false, ltb-true}
use Rattle.std.proofs.lemmas.List.Folds.{find_at}
use Rattle.std.proofs.lemmas.List.Sums.{passes_at_first}
use Rattle.std.proofs.lemmas.Slice.Eq.{bytes_eq-Decides}
use Rattle.std.proofs.lemmas.Option.{slice_get-get_or, slice_get_past}
use Rattle.rulebook.specs.declared.reply.Refusal.TheVariants as refusal
use Rattle.rulebook.specs.declared.reply.Reply.TheVariants as reply
use Rattle.rulebook.specs.declared.rules.Caller.{Caller}
use Rattle.rulebook.specs.declared.rules.Phase.{Phase}
use Rattle.rulebook.specs.declared.rules.Phase.TheVariants.{Published}
use Rattle.rulebook.specs.Answers.{run_refusals, withdraw_outcome}
use Rattle.rulebook.specs.Campaign.{History, Run, is_taken, is_withdrawn, phase, runs}
use Rattle.rulebook.specs.Requests.Refusals.{Outcome, ◌when◌, unless_missing, is_phase, unless}
use Rattle.rulebook.specs.Requests.Roles.{is_group}
use Rattle.rulebook.specs.Reports.Scores.{is_submitter, run_named}
use Rattle.rulebook.specs.Words.{Text}
use Rattle.campaign_core.specs.Numbering.Submissions.{IsRunAsked, asked_run}
use Rattle.campaign_core.proofs.Lists.FirstPlaces.{is-there}
use Rattle.campaign_core.proofs.Numbers.RunPlaces.{no_run}

abbrev is_named : Text → Run → Bool
is_named name run = bytes_eq run.name name

-- the run of a name, by its number
pub record IsRun (H : History) (name : Text) (number : ℕ) (run : Run) : Type 0 where
  pub within : number < length (runs H)
  pub there : slice_get (runs H) number ≡ Some run
  pub named : run_named H name ≡ Some run
  pub name_is : run.name ≡ name

abbrev place : History → Text → ℕ
place H name = position_or_len (is_named name) (runs H)

pub run-found : (H : History) (name : Text) (number : ℕ) → Some number ≡ position (is_named name) (runs H) → IsRun H name number (get_or (runs H) number no_run)
run-found H name number is = step (ltb (place H name) (length (runs H))) refl is
  where
    step : (t : Bool) → ltb (place H name) (length (runs H)) ≡ t → Some number ≡ cond t (Some (place H name)) None
        → IsRun H name number (get_or (runs H) number no_run)
    step true less some =
        let same : number ≡ place H name = cc some in
        let within : place H name < length (runs H) = ltb-true (place H name) (length (runs H)) less in
        let run : Run = get_or (runs H) number no_run in
        let passes : is_named name run ≡ true =
        ap (λ n. is_named name (get_or (runs H) n no_run)) same ∙ passes_at_first (is_named name) (runs H) no_run within in
        record {
          within = omega (arith, same, within);
          there = slice_get-get_or (runs H) number no_run (omega (arith, same, within));
          named = find_at (is_named name) (runs H) ∙ ap (slice_get (runs H)) (sym same) ∙ slice_get-get_or (runs H) number no_run (omega (arith, same, within));
          name_is = (bytes_eq-Decides run.name name).0 passes;
        }
    step false past some = cc some

pub no-run-found : (H : History) (name : Text) → None ≡ position (is_named name) (runs H) → run_named H name ≡ None
no-run-found H name is = step (ltb (place H name) (length (runs H))) refl is
  where
    step : (t : Bool) → ltb (place H name) (length (runs H)) ≡ t → None ≡ cond t (Some (place H name)) None → run_named H name ≡ None
    step true less none = cc none
    step false past none = find_at (is_named name) (runs H) ∙ slice_get_past (runs H) (place H name) (ltb-false (place H name) (length (runs H)) past)

-- a run that is named was submitted, and has a number
pub place-named : (H : History) (name : Text) (run : Run) → run_named H name ≡ Some run → is_some (position (is_named name) (runs H)) ≡ true
place-named H name run found = step (position (is_named name) (runs H)) refl
  where
    step : (o : Option ℕ) → position (is_named name) (runs H) ≡ o → is_some o ≡ true
    step (Some n) is = refl
    step None is = let both : (let o : Option Run = None in o) ≡ Some run = sym (no-run-found H name (sym is)) ∙ found in cc both

pub taken-named : (H : History) (name : Text) (run : Run) → run_named H name ≡ Some run → is_taken H name ≡ true
taken-named H name run found = sym (is-there (is_named name) (runs H)) ∙ place-named H name run found

-- What a caller is told of a run that is named.

pub asked-unknown : (H : History) (who : Caller) (name : Text) → None ≡ position (is_named name) (runs H) → IsRunAsked H who name (Err refusal.UnknownRun)
asked-unknown H who name none on =
    ap (λ (o : Option Run). unless_missing o refusal.UnknownRun (λ run. unless (run_refusals H who name) (on run))) (no-run-found H name none)

module _ (H : History) (who : Caller) (name : Text) (number : ℕ) (first : Some number ≡ position (is_named name) (runs H)) where
  abbrev run : Run
  run = get_or (runs H) number no_run

  asked-named : (on : Run → Outcome) → asked_run H who name on ≡ unless (run_refusals H who name) (on run)
  asked-named on =
      ap (λ (o : Option Run). unless_missing o refusal.UnknownRun (λ run. unless (run_refusals H who name) (on run))) (run-found H name number first).named

  pub asked-another : true ≡ (is_group who.role && not (is_submitter H who.name name)) → IsRunAsked H who name (Err refusal.NotYours)
  asked-another another on =
      asked-named on ∙ ap (λ t. unless ((refusal.NotYours when t) ∷ (refusal.Withdrawn when is_withdrawn H name) ∷ []) (on run)) (sym another)

  module _ (mine : false ≡ (is_group who.role && not (is_submitter H who.name name))) where
    asked-mine : (on : Run → Outcome) → asked_run H who name on ≡ unless ((refusal.Withdrawn when is_withdrawn H name) ∷ []) (on run)
    asked-mine on = asked-named on ∙ ap (λ t. unless ((refusal.NotYours when t) ∷ (refusal.Withdrawn when is_withdrawn H name) ∷ []) (on run)) (sym mine)

    pub asked-withdrawn : true ≡ is_withdrawn H name → IsRunAsked H who name (Err refusal.Withdrawn)
    asked-withdrawn away on = asked-mine on ∙ ap (λ t. unless ((refusal.Withdrawn when t) ∷ []) (on run)) (sym away)

    pub asked-live : false ≡ is_withdrawn H name → IsRunAsked H who name (Ok number)
    asked-live stays =
        let is = run-found H name number first in
        record {
          run = run;
          there = is.there;
          name_is = is.name_is;
          first = first;
          live = sym stays;
          asked = λ on. asked-mine on ∙ ap (λ t. unless ((refusal.Withdrawn when t) ∷ []) (on run)) (sym stays);
        }

-- what is ruled of a withdrawal before the publication
pub withdraw-asked : (H : History) (who : Caller) (name : Text) (p : Phase) → p ≡ phase H → false ≡ is_phase Published p
    → withdraw_outcome H who name ≡ asked_run H who name (λ run. Ok reply.Done)
withdraw-asked H who name p phase_is before =
    ap (λ t. unless ((refusal.WrongPhase (phase H) when t) ∷ []) (asked_run H who name (λ run. Ok reply.Done)))
    (ap (is_phase Published) (sym phase_is) ∙ sym before)
