-- The turn is taken where it is free, and nothing else changes.
use Rattle.std.proofs.Common.{ap, ◌∙◌, rules}
use Rattle.hall.proofs.TurnSteps.{takes_from}
use Rattle.hall.proofs.halls.Hall.take_turn.Goals as goal

pub compare_exchange-requires : goal.compare_exchange-requires
compare_exchange-requires g c = (
  search rules,
  search rules,
  takes_from g.B.Storied.story _ _ c.loop.seat.me
      (ap (λ m. m.1) c.loop.invariant.1 ∙ c.requires.free.0) (ap (λ m. m.0.stage) c.loop.invariant.1 ∙ c.requires.free.1),
)
