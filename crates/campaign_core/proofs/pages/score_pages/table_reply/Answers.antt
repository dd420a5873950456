use Rattle.std.proofs.Common.{◌≡◌, ◌++◌, ◌∙◌, ◌<◌, ◌≤◌, [], false, true, Option, Some, ap, arith, get_or, length, map, rules, subst, sym, take, take_all, vec_len}
use Rattle.std.specs.List.{flat_map}
use Rattle.std.specs.Option.{option_map_or}
use Rattle.std.proofs.lemmas.List.{flat_map_more}
use Rattle.std.proofs.lemmas.Option.{slice_get-get_or}
use Rattle.rulebook.specs.declared.entry.Entry.{Entry}
use Rattle.rulebook.specs.declared.reply.Reply.TheVariants as reply
use Rattle.rulebook.specs.Campaign.{Run, is_withdrawn, run_in, runs}
use Rattle.rulebook.specs.Reports.Scores.{summary_lines}
use Rattle.rulebook.specs.Words.{Text}
use Rattle.campaign_core.specs.CampaignStates.{KnowsRun}
use Rattle.campaign_core.specs.Numbering.Submissions.{AreSubmissions}
use Rattle.campaign_core.specs.declared.campaign.submissions.Submission.{Submission}
use Rattle.assessment.specs.TopicFacts.{facts_of}
use Rattle.campaign_core.proofs.PageTexts.KnownRuns.{known-run}
use Rattle.campaign_core.proofs.Entries.Runs.LiveRuns.{at-live}
use Rattle.campaign_core.proofs.Entries.Runs.LiveRunLists.{live-passed, live-runs, live-taken, live_of}
use Rattle.campaign_core.proofs.Numbers.RunPlaces.{entry-at, entry-within, no_run, runs-many}
use Rattle.campaign_core.proofs.Entries.Runs.WithdrawalSteps.{flag-there}
use Rattle.campaign_core.proofs.pages.score_pages.table_reply.Goals as goal

pub overflow_cast-run : goal.overflow_cast-run
overflow_cast-run c =
    omega (
      arith,
      runs-many c.args.campaign.now.history.items c.args.campaign.now.submissions.items c.requires.known.submissions_are,
      c.loop-number-test.true,
      c.requires.known.runs_fit,
    )

pub index-requires : goal.index-requires
index-requires c =
    let H = c.args.campaign.now.history.items in
    let all = c.deref-submission-items.result.now in
    let are : AreSubmissions H all = subst (AreSubmissions H) (sym c.deref-submission-items.ensures.value) c.requires.known.submissions_are in
    let none : Submission = record { place = 0; is_withdrawn = false } in
    let placed = entry-within H all c.loop-number.number none are c.loop-number-test.true in
    let counted : length H ≡ vec_len c.args.campaign.now.history = search rules in
    omega (arith, placed, counted)

pub loop-number-preserved-then-is_withdrawn : goal.loop-number-preserved-then-is_withdrawn
loop-number-preserved-then-is_withdrawn c =
    let H = c.args.campaign.now.history.items in
    let all = c.deref-submission-items.result.now in
    let are : AreSubmissions H all = subst (AreSubmissions H) (sym c.deref-submission-items.ensures.value) c.requires.known.submissions_are in
    let n = c.loop-number.number in
    let within : n < length (runs H) = omega (arith, runs-many H all are, c.loop-number-test.true) in
    let away : is_withdrawn H (get_or (runs H) n no_run).name ≡ true = sym (flag-there H all n _ are c.loop-number-test.true) ∙ c.if-is_withdrawn.true in
    c.loop-number.invariant ∙ ap (flat_map (summary_lines H)) (sym (live-passed H n no_run within away))

pub loop-number-preserved : goal.loop-number-preserved
loop-number-preserved c =
    let H = c.args.campaign.now.history.items in
    let all = c.deref-submission-items.result.now in
    let are : AreSubmissions H all = subst (AreSubmissions H) (sym c.deref-submission-items.ensures.value) c.requires.known.submissions_are in
    let n = c.loop-number.number in
    let e = c.index.result.now in
    let within : n < length (runs H) = omega (arith, runs-many H all are, c.loop-number-test.true) in
    let run : Run = get_or (runs H) n no_run in
    let stays : is_withdrawn H run.name ≡ false = sym (flag-there H all n _ are c.loop-number-test.true) ∙ c.if-is_withdrawn.false in
    let at = entry-at H all n _ e no_run are c.loop-number-test.true in
    let submits : run_in e.core.command ≡ Some run = ap (λ (e : Entry). run_in e.core.command) c.index.ensures ∙ at.run_is in
    let name_is : c.name_of-name.result.now ≡ run.name = c.name_of-name.ensures ∙ ap (λ (o : Option Run). option_map_or (λ run. run.name) o []) submits in
    let knows : KnowsRun H (map facts_of c.items-items.result.now) c.board-board.result.now (record { 0 = n }) run =
    known-run c.args.campaign.now c.topics-topics.result.now c.items-items.result.now c.board-board.result.now (record { 0 = n }) run c.requires.known
    (c.topics-topics.ensures.lists c.requires.on_board) c.items-items.ensures.topics c.board-board.ensures.board c.board-board.ensures.stands
    (at-live H (record { 0 = n }) run (slice_get-get_or (runs H) n no_run within) stays) in
    c.in_ok-write_run_summary.ensures H run knows name_is
    ∙ ap (λ (text : Text). text ++ summary_lines H run) c.loop-number.invariant
    ∙ flat_map_more (summary_lines H) [] (live_of H (take n (runs H))) run
    ∙ ap (flat_map (summary_lines H)) (sym (live-taken H n no_run within stays))

pub returns : goal.returns
returns c =
    let H = c.args.campaign.now.history.items in
    let past : length (runs H) ≤ c.loop-number.number =
    omega (arith, runs-many H c.args.campaign.now.submissions.items c.requires.known.submissions_are, c.loop-number-test.false) in
    ap reply.Page
    (c.new.ensures ∙ c.loop-number.invariant ∙ ap (λ rs. flat_map (summary_lines H) (live_of H rs)) (take_all c.loop-number.number (runs H) past)
    ∙ ap (flat_map (summary_lines H)) (sym (live-runs H)))
