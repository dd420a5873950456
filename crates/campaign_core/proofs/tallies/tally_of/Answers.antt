use Rattle.std.proofs.Common.{List, map, subst, sym}
use Rattle.assessment.specs.TopicFacts.{TopicView, facts_of}
use Rattle.campaign_core.specs.CampaignStates.{KnowsAll}
use Rattle.campaign_core.proofs.tallies.tally_of.Goals as goal

pub returns : goal.returns
returns c =
    let campaign = c.args.campaign.now in
    let H = campaign.history.items in
    let desk = campaign.assessment.leases in
    let knows : KnowsAll H (map facts_of c.topics.result.now) desk =
    subst (λ (topics : List TopicView). KnowsAll H (map facts_of topics) desk) (sym c.topics.ensures) c.requires.known.assessed.knows in
    let counts = c.judgements-relevant.ensures H desk knows in
    let best = c.best_of-best.ensures in
    record { judged_is = counts.1; relevant_is = counts.0; best_is = best.best; map_is = best.map; map_fits = best.fits }
