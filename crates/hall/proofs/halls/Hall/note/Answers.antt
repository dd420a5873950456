-- The entries are counted under the turn.
use Rattle.std.proofs.Common.{rules}
use Rattle.hall.proofs.TurnSteps.{notes}
use Rattle.hall.proofs.halls.Hall.note.Goals as goal

pub store-requires : goal.store-requires
store-requires g c = (
  search rules,
  search rules,
  notes g.B.Storied.story _ _ _ c.requires.turn.0 g.N.Fresh.next c.args.count c.requires.turn.1 c.requires.turn.2 c.requires.count,
)
