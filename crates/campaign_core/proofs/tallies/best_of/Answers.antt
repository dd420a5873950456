use Rattle.std.proofs.Common.{◌≡◌, ◌+◌, ◌++◌, ◌∙◌, ◌<◌, ◌≤◌, ◌||◌, List, [], ◌∷◌, false, true, None, Option, Some, ap, arith, get_or, is_none, length, nat_lt, refl, subst, sym, take, take_all}
use Rattle.std.specs.Option.{option_map}
use Rattle.std.proofs.lemmas.Option.{slice_get-get_or}
use Rattle.depth_pool.specs.declared.runs.RunId.{RunId}
use Rattle.rulebook.specs.Campaign.{History, Run, is_withdrawn, live, runs}
use Rattle.campaign_core.specs.Numbering.Submissions.{AreSubmissions}
use Rattle.campaign_core.specs.declared.campaign.submissions.Submission.{Submission}
use Rattle.campaign_core.specs.Views.Tallies.{first_best, greatest, map_of, submitted_at}
use Rattle.campaign_core.proofs.PageTexts.BestRuns.{kept, taken}
use Rattle.campaign_core.proofs.PageTexts.KnownRuns.{known-run}
use Rattle.campaign_core.proofs.Entries.Runs.LiveRuns.{at-live}
use Rattle.campaign_core.proofs.Entries.Runs.LiveRunLists.{live-passed, live-runs, live-taken, live_of}
use Rattle.campaign_core.proofs.Numbers.RunPlaces.{no_run, runs-many}
use Rattle.campaign_core.proofs.Entries.Runs.WithdrawalSteps.{flag-there}
use Rattle.campaign_core.proofs.tallies.best_of.Goals as goal
use Rattle.campaign_core.proofs.tallies.best_of.Goals.{then-better, else-better}

pub overflow_cast-run : goal.overflow_cast-run
overflow_cast-run c =
    omega (
      arith,
      runs-many c.args.campaign.now.history.items c.args.campaign.now.submissions.items c.requires.known.submissions_are,
      c.loop-number-test.true,
      c.requires.known.runs_fit,
    )

pub loop-number-init : goal.loop-number-init
loop-number-init c = record { best_is = refl; greatest_is = refl; none_yet = λ none. refl; fits = omega arith }

pub loop-number-preserved-then-is_withdrawn : goal.loop-number-preserved-then-is_withdrawn
loop-number-preserved-then-is_withdrawn c =
    let H = c.args.campaign.now.history.items in
    let all = c.deref-submission-items.result.now in
    let n = c.loop-number.number in
    let are : AreSubmissions H all = subst (AreSubmissions H) (sym c.deref-submission-items.ensures.value) c.requires.known.submissions_are in
    let passed : live_of H (take (n + 1) (runs H)) ≡ live_of H (take n (runs H)) =
    live-passed H n no_run (omega (arith, runs-many H all are, c.loop-number-test.true))
    (sym (flag-there H all n _ are c.loop-number-test.true) ∙ c.if-is_withdrawn.true) in
    record {
      best_is = c.loop-number.invariant.best_is ∙ ap (λ (rs : List Run). option_map Some (first_best (map_of H) rs)) (sym passed);
      greatest_is = c.loop-number.invariant.greatest_is ∙ ap (greatest (map_of H)) (sym passed);
      none_yet = λ none. passed ∙ c.loop-number.invariant.none_yet none;
      fits = c.loop-number.invariant.fits;
    }

abbrev history : goal.Joined-better → History
history c = c.args.campaign.now.history.items

abbrev all_of : goal.Joined-better → List Submission
all_of c = c.deref-submission-items.result.now

are : (c : goal.Joined-better) → AreSubmissions (history c) (all_of c)
are c = subst (AreSubmissions (history c)) (sym c.deref-submission-items.ensures.value) c.requires.known.submissions_are

-- the run of the loop
abbrev run_of : goal.Joined-better → Run
run_of c = get_or (runs (history c)) c.loop-number.number no_run

within_runs : (c : goal.Joined-better) → c.loop-number.number < length (runs (history c))
within_runs c = omega (arith, runs-many (history c) (all_of c) (are c), c.loop-number-test.true)

stays : (c : goal.Joined-better) → is_withdrawn (history c) (run_of c).name ≡ false
stays c = sym (flag-there (history c) (all_of c) c.loop-number.number _ (are c) c.loop-number-test.true) ∙ c.if-is_withdrawn.false

there : (c : goal.Joined-better) → submitted_at (history c) (record { 0 = c.loop-number.number }) ≡ Some (run_of c)
there c = slice_get-get_or (runs (history c)) c.loop-number.number no_run (within_runs c)

value_is : (c : goal.Joined-better) → c.map_of-value.result ≡ map_of (history c) (run_of c)
value_is c =
    let number : RunId = record { 0 = c.loop-number.number } in
    c.map_of-value.ensures.map (history c) (run_of c)
    (known-run c.args.campaign.now c.topics-topics.result.now c.items-items.result.now c.board-board.result.now number (run_of c) c.requires.known
    (c.topics-topics.ensures.lists c.requires.on_board) c.items-items.ensures.topics c.board-board.ensures.board c.board-board.ensures.stands
    (at-live (history c) number (run_of c) (there c) (stays c)))

live_more : (c : goal.Joined-better) → live_of (history c) (take (c.loop-number.number + 1) (runs (history c)))
    ≡ live_of (history c) (take c.loop-number.number (runs (history c))) ++ run_of c ∷ []
live_more c = live-taken (history c) c.loop-number.number no_run (within_runs c) (stays c)

abbrev so_far : goal.Joined-better → List Run
so_far c = live_of (history c) (take c.loop-number.number (runs (history c)))

pub loop-number-preserved : goal.loop-number-preserved
loop-number-preserved c =
    let H = history c in
    record {
      best_is =
          elim c.if-better.branch [
            | then-better w ↦
                (let better = taken (map_of H) (so_far c) (run_of c) c.loop-number.best c.loop-number.greatest c.map_of-value.result
                (sym c.is_better-better.ensures ∙ w.if-better.true) c.loop-number.invariant.none_yet c.loop-number.invariant.greatest_is (value_is c) in
                ap (option_map (submitted_at H)) w.best-is
                ∙ ap (λ (o : Option Run). let oo : Option (Option Run) = Some o in oo) (there c)
                ∙ ap (option_map Some) (sym (ap (first_best (map_of H)) (live_more c) ∙ better.0)))
            | else-better w ↦
                (let same = kept (map_of H) (submitted_at H) (so_far c) (run_of c) c.loop-number.best c.loop-number.greatest c.map_of-value.result
                (sym c.is_better-better.ensures ∙ w.if-better.false) c.loop-number.invariant.greatest_is (value_is c) c.loop-number.invariant.best_is in
                ap (option_map (submitted_at H)) w.best-is
                ∙ same.0
                ∙ ap (λ (rs : List Run). option_map Some (first_best (map_of H) rs)) (sym (live_more c)))
          ];
      greatest_is =
          elim c.if-better.branch [
            | then-better w ↦
                (let better = taken (map_of H) (so_far c) (run_of c) c.loop-number.best c.loop-number.greatest c.map_of-value.result
                (sym c.is_better-better.ensures ∙ w.if-better.true) c.loop-number.invariant.none_yet c.loop-number.invariant.greatest_is (value_is c) in
                w.greatest-is ∙ better.1 ∙ ap (greatest (map_of H)) (sym (live_more c)))
            | else-better w ↦
                (let same = kept (map_of H) (submitted_at H) (so_far c) (run_of c) c.loop-number.best c.loop-number.greatest c.map_of-value.result
                (sym c.is_better-better.ensures ∙ w.if-better.false) c.loop-number.invariant.greatest_is (value_is c) c.loop-number.invariant.best_is in
                w.greatest-is ∙ same.1 ∙ ap (greatest (map_of H)) (sym (live_more c)))
          ];
      none_yet = λ none.
          elim c.if-better.branch [
            | then-better
                w ↦ (let some : None ≡ Some (let number : RunId = record { 0 = c.loop-number.number } in number) = sym none ∙ w.best-is in absurd (cc some))
            | else-better w ↦
                (let before : c.loop-number.best ≡ None = sym w.best-is ∙ none in
                let test : (is_none c.loop-number.best || nat_lt c.loop-number.greatest c.map_of-value.result) ≡ false =
                sym c.is_better-better.ensures ∙ w.if-better.false in
                let none_there : true ≡ false =
                ap (λ (o : Option RunId). is_none o || nat_lt c.loop-number.greatest c.map_of-value.result) (sym before) ∙ test in
                absurd (cc none_there))
          ];
      fits = elim c.if-better.branch [
        | then-better w ↦ omega (arith, w.greatest-is, c.map_of-value.ensures.fits)
        | else-better w ↦ omega (arith, w.greatest-is, c.loop-number.invariant.fits)
      ];
    }

pub returns : goal.returns
returns c =
    let H = c.args.campaign.now.history.items in
    let past : length (runs H) ≤ c.loop-number.number =
    omega (
      arith,
      runs-many H c.args.campaign.now.submissions.items c.requires.known.submissions_are,
      c.loop-number-test.false,
      ap length c.deref-submission-items.ensures.value,
    ) in
    let whole : live_of H (take c.loop-number.number (runs H)) ≡ live H = ap (live_of H) (take_all c.loop-number.number (runs H) past) ∙ sym (live-runs H) in
    record {
      best = c.loop-number.invariant.best_is ∙ ap (λ (rs : List Run). option_map Some (first_best (map_of H) rs)) whole;
      map = c.loop-number.invariant.greatest_is ∙ ap (greatest (map_of H)) whole;
      fits = c.loop-number.invariant.fits;
    }
