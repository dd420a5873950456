use Rattle.std.proofs.Common.{◌∙◌, Err, ap, subst, sym}
use Rattle.rulebook.specs.declared.reply.Refusal.TheVariants as refusal
use Rattle.rulebook.specs.declared.rules.Phase.{Phase}
use Rattle.rulebook.specs.Answers.{command_outcome}
use Rattle.rulebook.specs.Requests.Refusals.{Outcome}
use Rattle.campaign_core.specs.Commands.Decisions.{IsDecision}
use Rattle.campaign_core.proofs.decisions.decide.Goals as goal

pub returns-in-Found-clause-decision : goal.returns-in-Found-clause-decision
returns-in-Found-clause-decision c =
    let campaign = c.args.campaign.now in
    let core = c.args.core.now in
    subst (IsDecision campaign c.args.docnos.now core) (sym c.wrong_phase.ensures)
    (ap (command_outcome campaign.history.items core.caller core.moment) c.in-Found.is
    ∙ ap (λ (p : Phase). let told : Outcome = Err (refusal.WrongPhase p) in told) (sym c.requires.asked.asked.asked.known.phase_is))
