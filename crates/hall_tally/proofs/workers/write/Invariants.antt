-- The pass stays one of the hall.
use Rattle.std.proofs.Common.{◌≡◌}
use Rattle.hall_tally.proofs.workers.write.Given as goal

abbrev pub invariant-loop-number : goal.invariant-loop-number
invariant-loop-number g l = l.pass.hall ≡ l.hall
