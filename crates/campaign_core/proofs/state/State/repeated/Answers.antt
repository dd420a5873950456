use Rattle.std.proofs.Common.{◌∙◌, ap, refl, sym}
use Rattle.campaign_core.specs.Numbering.NumberedRequests.{numbers_of}
use Rattle.campaign_core.specs.StateViews.{StateView}
use Rattle.campaign_core.specs.declared.state.State.TheInside.{Inside}
use Rattle.campaign_core.proofs.Entries.Preparations.KeptStates.{idle-of, kept-idle, names-begin, numbers-cut, numbers-kept, unchanged}
use Rattle.campaign_core.proofs.state.State.repeated.Goals as goal

pub kept_reply-requires : goal.kept_reply-requires
kept_reply-requires c = c.cut.ensures ∙ numbers-cut c.self.inside c.self.invariant ∙ ap numbers_of (sym c.deref.ensures.value)

pub invariant_of-self : goal.invariant_of-self
invariant_of-self c =
    let old = c.self.inside in
    let none = ap (λ (s : StateView). s.prepared) c.self.view_is ∙ c.forget.ensures.prepared in
    let new : Inside = record old { numbers = c.cut.new.self } in
    kept-idle old new c.self.invariant (unchanged old.campaign) refl refl (names-begin old c.self.invariant) (numbers-kept old c.cut.new.self c.cut.ensures)
    none (idle-of old c.self.invariant none)
