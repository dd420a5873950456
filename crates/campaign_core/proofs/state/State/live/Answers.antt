use Rattle.std.proofs.Common.{◌≡◌, ◌∙◌, ℕ, ap, map, subst}
use Rattle.depth_pool.specs.declared.runs.RunId.{RunId}
use Rattle.rulebook.specs.Campaign.{Run, numbered_runs}
use Rattle.campaign_core.specs.StateViews.{StateView}
use Rattle.campaign_core.proofs.Entries.Runs.LiveNumbers.{plain-numbers}
use Rattle.campaign_core.proofs.state.State.live.Goals as goal

pub returns : goal.returns
returns c =
    subst (λ (s : StateView). map (λ (run : RunId). run.0) c.as_slice.result.now ≡ map (λ (p : ℕ × Run). p.0) (numbered_runs s.history)) c.self.view_is
    (ap (map (λ (run : RunId). run.0)) (c.as_slice.ensures.value ∙ c.self.invariant.known.live_are)
    ∙ plain-numbers (numbered_runs c.self.inside.campaign.history.items))
