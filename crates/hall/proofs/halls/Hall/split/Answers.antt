-- A pass is split off.
use Rattle.std.proofs.Common.{rules}
use Rattle.hall.proofs.SeatSteps.{splits}
use Rattle.hall.proofs.halls.Hall.split.Goals as goal

pub split_seat-seat-requires : goal.split_seat-seat-requires
split_seat-seat-requires g c = (search rules, search rules, splits g.B.Storied.story _ _ (search rules))
