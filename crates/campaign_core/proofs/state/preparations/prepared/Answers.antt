use Rattle.std.proofs.Common.{◌≡◌, None, subst, sym}
use Rattle.campaign_core.specs.Commands.Decisions.{IsNewRequest, IsNumberFor}
use Rattle.campaign_core.specs.CampaignStates.{IsUnchanged}
use Rattle.campaign_core.specs.declared.campaign.Campaign.{Campaign}
use Rattle.campaign_core.proofs.state.preparations.prepared.Goals as goal

pub decided-requires-clause-new : goal.decided-requires-clause-new
decided-requires-clause-new c =
    subst (λ (campaign : Campaign). IsNewRequest campaign c.args.docnos.now c.args.numbers.now c.args.core) (sym c.lead_fronts.ensures.unchanged) c.requires.new

pub decided-requires-clause-idle : goal.decided-requires-clause-idle
decided-requires-clause-idle c = subst (λ (campaign : Campaign). campaign.assessment.pending ≡ None) (sym c.lead_fronts.ensures.unchanged) c.requires.idle

pub decided-requires-clause-topic : goal.decided-requires-clause-topic
decided-requires-clause-topic c =
    subst (λ (campaign : Campaign). IsNumberFor campaign c.args.core.command c.in_ok-topic.topic)
    (sym c.lead_fronts.ensures.unchanged) c.in_ok-topic.ensures.number

pub returns-clause-unchanged : goal.returns-clause-unchanged
returns-clause-unchanged c =
    subst (λ (campaign : Campaign). IsUnchanged campaign c.decided.new.campaign) c.lead_fronts.ensures.unchanged c.decided.ensures.unchanged
