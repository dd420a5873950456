use Rattle.std.proofs.Common.{◌≡◌, ◌∙◌, ap, subst, sym}
use Rattle.std.specs.Prelude.{IfOk}
use Rattle.rulebook.specs.Campaign.{History}
use Rattle.rulebook.specs.Reports.Systems.{systems}
use Rattle.campaign_core.specs.StateViews.{StateView}
use Rattle.campaign_core.specs.Views.Lendings.{IsBoardOf}
use Rattle.campaign_core.proofs.state.State.systems.Goals as goal

pub returns-clause-systems : goal.returns-clause-systems
returns-clause-systems c =
    let is : c.deref.result.now ≡ c.args.self.now.history = c.deref.ensures.value ∙ ap (λ (seen : StateView). seen.history) c.self.view_is in
    subst (λ (H : History). IfOk c.systems_of.result (λ rows. rows ≡ systems H)) is c.systems_of.ensures.systems

pub systems_of-requires-clause-board : goal.systems_of-requires-clause-board
systems_of-requires-clause-board c =
    let is : c.deref.result.now ≡ c.args.self.now.history = c.deref.ensures.value ∙ ap (λ (seen : StateView). seen.history) c.self.view_is in
    subst (λ (H : History). IsBoardOf H c.board-board.result.now) (sym is) c.board-board.ensures.board
