use Rattle.std.proofs.Common.{◌∙◌, ap, refl}
use Rattle.campaign_core.specs.StateViews.{StateView}
use Rattle.campaign_core.specs.declared.state.State.TheInside.{Inside}
use Rattle.campaign_core.proofs.Entries.Preparations.KeptStates.{idle-of, kept-idle, names-cut, names-kept, numbers-begin, unchanged}
use Rattle.campaign_core.proofs.state.State.tell.Goals as goal

pub query_reply-requires-clause-known : goal.query_reply-requires-clause-known
query_reply-requires-clause-known c = record { known = c.self.invariant.known; docnos_are = c.cut.ensures ∙ names-cut c.self.inside c.self.invariant }

pub invariant_of-self : goal.invariant_of-self
invariant_of-self c =
    let old = c.self.inside in
    let none = ap (λ (s : StateView). s.prepared) c.self.view_is ∙ c.forget.ensures.prepared in
    let new : Inside = record old { docnos = c.cut.new.self; orders = c.query_reply.new.orders } in
    kept-idle old new c.self.invariant (unchanged old.campaign) refl refl (names-kept old c.cut.new.self c.cut.ensures) (numbers-begin old c.self.invariant)
    none (idle-of old c.self.invariant none)
