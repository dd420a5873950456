use Rattle.std.proofs.Common.{◌∙◌, Err, Ok, ap, subst}
use Rattle.rulebook.specs.declared.reply.Reply.TheVariants as reply
use Rattle.rulebook.specs.Answers.{command_outcome}
use Rattle.rulebook.specs.Campaign.{History}
use Rattle.campaign_core.specs.Numbering.Submissions.{IsRunAsked}
use Rattle.campaign_core.proofs.Rulings.RunRulings.{withdraw-asked}
use Rattle.campaign_core.proofs.decisions.withdraw.withdraw_decision.Goals as goal

pub returns-in-Ok : goal.returns-in-Ok
returns-in-Ok c =
    let campaign = c.args.campaign.now in
    let H = campaign.history.items in
    let who = c.args.core.now.caller in
    let asked = subst (λ (H : History). IsRunAsked H who c.args.run.now (Ok c.in-Ok.number)) c.deref.ensures.value c.in-Ok.ensures in (
      ap (command_outcome H who c.args.core.now.moment) c.requires.command_is
          ∙ withdraw-asked H who c.args.run.now campaign.phase c.requires.asked.known.phase_is c.if-is_in.ensures ∙ asked.asked (λ run. Ok reply.Done),
      (c.args.run.now, c.requires.command_is, asked.first),
    )

pub returns-in-Err : goal.returns-in-Err
returns-in-Err c =
    let campaign = c.args.campaign.now in
    let H = campaign.history.items in
    let who = c.args.core.now.caller in
    let asked = subst (λ (H : History). IsRunAsked H who c.args.run.now (Err c.in-Err.refusal)) c.deref.ensures.value c.in-Err.ensures in
    ap (command_outcome H who c.args.core.now.moment) c.requires.command_is
    ∙ withdraw-asked H who c.args.run.now campaign.phase c.requires.asked.known.phase_is c.if-is_in.ensures ∙ asked (λ run. Ok reply.Done)
