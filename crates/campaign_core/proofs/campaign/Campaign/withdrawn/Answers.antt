-- The change that is pending carries the entry out, so it tells the run.
use Rattle.std.proofs.Common.{◌≡◌, ◌↔◌, ◌++◌, ◌∷◌, ◌∙◌, [], Some, ap, option_copied, subst, sym}
use Rattle.assessment.specs.Changes.{facts}
use Rattle.assessment.specs.declared.change.Change.{Change}
use Rattle.assessment.specs.declared.change.Change.TheVariants as change
use Rattle.depth_pool.specs.declared.runs.RunId.{RunId}
use Rattle.campaign_core.specs.Numbering.Numbers.{names_of}
use Rattle.campaign_core.proofs.Entries.Runs.WithdrawalSteps.{withdrawn-by}
use Rattle.campaign_core.proofs.Rulings.AcceptedCommands.{some-same}
use Rattle.campaign_core.proofs.campaign.Campaign.withdrawn.Goals as goal

pub returns-in-Some : goal.returns-in-Some
returns-in-Some c = λ e ready.
    let s = c.args.self.now in
    let same : c.in-Some.change.now ≡ ready.change = some-same c.in-Some.change.now ready.change
    (sym (ap option_copied c.in-Some.is) ∙ c.pending.ensures ∙ ready.awaits.waits) in
    withdrawn-by s.history.items (names_of (s.history.items ++ e ∷ [])) (facts s.assessment).topics.topics s.assessment.leases e ready.change
    c.withdrawn_by.result ready.carries_out
    (subst (λ (made : Change). (run : RunId) → (c.withdrawn_by.result ≡ Some run) ↔ (made ≡ change.Withdraw run)) same c.withdrawn_by.ensures)

pub returns-in-None : goal.returns-in-None
returns-in-None c = λ e ready. let none = sym (ap option_copied c.in-None.is) ∙ c.pending.ensures ∙ ready.awaits.waits in cc none
