-- The pass stays one of the hall.
use Rattle.std.proofs.Common.{◌≡◌}
use Rattle.hall_tally.proofs.workers.count.Given as goal

abbrev pub invariant-loop : goal.invariant-loop
invariant-loop g l = l.pass.hall ≡ l.hall
