use Rattle.std.proofs.Common.{◌≡◌, ◌++◌, ◌∙◌, Err, Ok, ap, arith, map, subst, sym}
use Rattle.rulebook.specs.declared.reply.Reply.TheVariants as reply
use Rattle.rulebook.specs.Answers.{page_outcome, reply_of}
use Rattle.rulebook.specs.Campaign.{History, Run, is_withdrawn}
use Rattle.rulebook.specs.Reports.Scores.{scores_page}
use Rattle.rulebook.specs.Words.{Text}
use Rattle.campaign_core.specs.CampaignStates.{KnowsRun}
use Rattle.campaign_core.specs.Numbering.Submissions.{IsRunAsked, IsRunOf}
use Rattle.assessment.specs.TopicFacts.{facts_of}
use Rattle.campaign_core.proofs.PageTexts.KnownRuns.{known-run}
use Rattle.campaign_core.proofs.Entries.Runs.LiveRuns.{at-live}
use Rattle.campaign_core.proofs.Rulings.RunRulings.{run-found}
use Rattle.campaign_core.proofs.pages.score_pages.scores_reply.Goals.{After-board-board, In-Ok}
use Rattle.campaign_core.proofs.pages.score_pages.scores_reply.Goals as goal

-- the run that is asked for
asked : (c : In-Ok) → IsRunOf c.args.campaign.now.history.items c.args.who.now c.args.name.now c.in-Ok.number
asked c = subst (λ (H : History). IsRunAsked H c.args.who.now c.args.name.now (Ok c.in-Ok.number)) c.deref.ensures.value c.in-Ok.ensures

-- the board has its scores
scored : (c : After-board-board) (run : IsRunOf c.args.campaign.now.history.items c.args.who.now c.args.name.now c.in-Ok.number)
    → KnowsRun c.args.campaign.now.history.items (map facts_of c.items-items.result.now) c.board-board.result.now (record { 0 = c.in-Ok.number }) run.run
scored c run =
    known-run c.args.campaign.now c.topics-topics.result.now c.items-items.result.now c.board-board.result.now (record { 0 = c.in-Ok.number }) run.run
    c.requires.known (c.topics-topics.ensures.lists c.requires.on_board) c.items-items.ensures.topics c.board-board.ensures.board c.board-board.ensures.stands
    (at-live c.args.campaign.now.history.items (record { 0 = c.in-Ok.number }) run.run run.there
    (ap (is_withdrawn c.args.campaign.now.history.items) run.name_is ∙ run.live))

pub returns-in-Err : goal.returns-in-Err
returns-in-Err c =
    let H = c.args.campaign.now.history.items in
    let asked = subst (λ (H : History). IsRunAsked H c.args.who.now c.args.name.now (Err c.in-Err.refusal)) c.deref.ensures.value c.in-Err.ensures in
    sym (ap reply_of (asked (λ (run : Run). page_outcome (scores_page H run))))

pub overflow_cast-run : goal.overflow_cast-run
overflow_cast-run c =
    let run = asked (goal.at.overflow_cast-run c).In-Ok in
    let found = run-found c.args.campaign.now.history.items c.args.name.now c.in-Ok.number run.first in
    omega (arith, found.within, c.requires.known.runs_fit)

pub write_scores-requires : goal.write_scores-requires
write_scores-requires c =
    let at = goal.at.write_scores-requires c in
    let run = asked at.In-Ok in
    record { knows = (c.args.campaign.now.history.items, run.run, scored at.After-board-board run) }

pub returns : goal.returns
returns c =
    let at = goal.at.returns c in
    let H = c.args.campaign.now.history.items in
    let run = asked at.In-Ok in
    let name_is : c.bytes.result.now ≡ run.run.name = c.bytes.ensures ∙ sym run.name_is in
    ap reply.Page
    (c.new.ensures ∙ c.in_ok-write_scores.ensures H run.run (scored at.After-board-board run) name_is
    ∙ ap (λ (text : Text). text ++ scores_page H run.run) c.new-out.ensures.items)
    ∙ sym (ap reply_of (run.asked (λ (run : Run). page_outcome (scores_page H run))))
