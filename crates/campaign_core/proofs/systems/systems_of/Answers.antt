use Rattle.std.proofs.Common.{◌≡◌, ◌++◌, ◌∙◌, ◌∷◌, ◌<◌, ◌≤◌, ℕ, [], false, true, List, Some, ap, arith, get_or, length, refl, rules, sym, take_all}
use Rattle.std.specs.List.{filter_map, list_all}
use Rattle.std.proofs.lemmas.List.Folds.{list_all-append}
use Rattle.std.proofs.lemmas.Bool.{and_from}
use Rattle.std.proofs.lemmas.Option.{slice_get-get_or}
use Rattle.depth_pool.specs.declared.runs.RunId.{RunId}
use Rattle.rulebook.specs.declared.entry.Entry.{Entry}
use Rattle.rulebook.specs.declared.systems.System.{System}
use Rattle.rulebook.specs.Campaign.{History, Run, is_withdrawn, run_in, runs}
use Rattle.rulebook.specs.Reports.Systems.{are_means, are_sound_systems, is_sound_system, system_in, system_of, systems}
use Rattle.campaign_core.specs.CampaignStates.{KnowsRun}
use Rattle.campaign_core.specs.Numbering.Submissions.{submissions}
use Rattle.campaign_core.proofs.Entries.Runs.LiveRuns.{at-live}
use Rattle.campaign_core.proofs.Entries.Runs.LiveSystems.{are-sound, system-passed, system-sound, system-taken, systems-submitted, systems_to}
use Rattle.campaign_core.proofs.Entries.Runs.WithdrawalSteps.{flag-there}
use Rattle.campaign_core.proofs.Numbers.RunPlaces.{entry-at, entry-within, no_run, runs-long, runs-many}
use Rattle.campaign_core.proofs.systems.systems_of.Goals as goal

pub overflow_cast-run : goal.overflow_cast-run
overflow_cast-run c = omega (arith, runs-many c.args.history.now c.args.submissions.now c.requires.submissions, c.loop-number-test.true, c.requires.few)

pub bounds-history-submission : goal.bounds-history-submission
bounds-history-submission c = entry-within c.args.history.now c.args.submissions.now c.loop-number.number _ c.requires.submissions c.loop-number-test.true

pub loop-number-init : goal.loop-number-init
loop-number-init c =
    let empty : c.new-systems.result.items ≡ [] = search rules in
    record { systems_are = empty; each_sound = ap (list_all is_sound_system) empty }

pub loop-number-preserved-then-is_withdrawn : goal.loop-number-preserved-then-is_withdrawn
loop-number-preserved-then-is_withdrawn c =
    let H = c.args.history.now in
    let all = c.args.submissions.now in
    let are = c.requires.submissions in
    let n = c.loop-number.number in
    let within : n < length (submissions H) = omega (arith, runs-many H all are, runs-long H, c.loop-number-test.true) in
    let away : is_withdrawn H (get_or (runs H) n no_run).name ≡ true = sym (flag-there H all n _ are c.loop-number-test.true) ∙ c.if-is_withdrawn.true in
    record {
      systems_are = c.loop-number.invariant.systems_are ∙ sym (system-passed H n within away);
      each_sound = c.loop-number.invariant.each_sound;
    }

pub loop-number-preserved : goal.loop-number-preserved
loop-number-preserved c =
    let H = c.args.history.now in
    let all = c.args.submissions.now in
    let are = c.requires.submissions in
    let n = c.loop-number.number in
    let e = c.index-history-submission.result in
    let run : Run = get_or (runs H) n no_run in
    let number : RunId = record { 0 = n } in
    let within : n < length (submissions H) = omega (arith, runs-many H all are, runs-long H, c.loop-number-test.true) in
    let stays : is_withdrawn H run.name ≡ false = sym (flag-there H all n _ are c.loop-number-test.true) ∙ c.if-is_withdrawn.false in
    let at = entry-at H all n _ e no_run are c.loop-number-test.true in
    let is : e ≡ get_or (submissions H) n e = c.index-history-submission.is ∙ at.entry_is in
    let submits : run_in e.core.command ≡ Some run = ap (λ (e : Entry). run_in e.core.command) c.index-history-submission.is ∙ at.run_is in
    let there = slice_get-get_or (runs H) n no_run (omega (arith, within, runs-long H)) in
    let lent = c.requires.board in
    let knows : KnowsRun H lent.topics c.args.board.now number run = record {
      legal = c.requires.legal;
      desk = lent.desk;
      knows = lent.knows;
      scored = lent.scored;
      run_is = at-live H number run there stays;
    } in
    let system : System = c.in_ok-system.system in
    let system_is : system ≡ system_of H e.core.caller.name run = c.in_ok-system.ensures.system H lent.topics run knows submits in
    let means : are_means (system_of H e.core.caller.name run).summary ≡ true =
    ap (λ (system : System). are_means system.summary) (sym system_is) ∙ c.in_ok-system.ensures.means H lent.topics run knows in
    let sound : is_sound_system system ≡ true =
    ap is_sound_system system_is ∙ system-sound H _ e run c.requires.legal at.within c.index-history-submission.is submits means in
    let before = c.loop-number.systems.items in
    record {
      systems_are =
          c.in_ok-push.ensures.items
          ∙ ap (λ (systems : List System). systems ++ system ∷ []) c.loop-number.invariant.systems_are
          ∙ ap (λ (system : System). systems_to H n ++ system ∷ []) system_is
          ∙ sym (system-taken H n e run within is submits stays);
      each_sound =
          ap (list_all is_sound_system) c.in_ok-push.ensures.items
          ∙ list_all-append is_sound_system before (system ∷ [])
          ∙ and_from (list_all is_sound_system before) (list_all is_sound_system (system ∷ [])) c.loop-number.invariant.each_sound
          (and_from (is_sound_system system) true sound refl);
    }

whole : (H : History) (n : ℕ) (found : List System) → length (submissions H) ≤ n → found ≡ systems_to H n → found ≡ systems H
whole H n found past is = is ∙ ap (filter_map (system_in H)) (take_all n (submissions H) past) ∙ systems-submitted H

pub returns-clause-systems : goal.returns-clause-systems
returns-clause-systems c =
    let H = c.args.history.now in
    let past : length (submissions H) ≤ c.loop-number.number =
    omega (arith, runs-many H c.args.submissions.now c.requires.submissions, runs-long H, c.loop-number-test.false) in
    c.new.ensures ∙ whole H c.loop-number.number _ past c.loop-number.invariant.systems_are

pub returns-clause-sound : goal.returns-clause-sound
returns-clause-sound c =
    let H = c.args.history.now in
    let past : length (submissions H) ≤ c.loop-number.number =
    omega (arith, runs-many H c.args.submissions.now c.requires.submissions, runs-long H, c.loop-number-test.false) in
    let all_are = whole H c.loop-number.number _ past c.loop-number.invariant.systems_are in
    let each : list_all is_sound_system (systems H) ≡ true = ap (list_all is_sound_system) (sym all_are) ∙ c.loop-number.invariant.each_sound in
    ap are_sound_systems (c.new.ensures ∙ all_are) ∙ are-sound H c.requires.few c.requires.runs.names_differ each
