use Rattle.std.proofs.Common.{ap, subst}
use Rattle.rulebook.specs.Campaign.{History}
use Rattle.campaign_core.specs.StateViews.{StateView}
use Rattle.campaign_core.specs.Views.Tallies.{IsTally}
use Rattle.campaign_core.proofs.state.State.tally.Goals as goal

pub returns : goal.returns
returns c = subst (λ (H : History). IsTally H c.tally_of.result) (ap (λ (seen : StateView). seen.history) c.self.view_is) c.tally_of.ensures
