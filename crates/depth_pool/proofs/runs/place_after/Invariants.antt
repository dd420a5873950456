-- No run so far has a greater number.
use Rattle.std.proofs.Common.{◌≡◌, ℕ, ◌<◌, nat_lt, false, get_or}
use Rattle.depth_pool.specs.Holdings.{Held}
use Rattle.depth_pool.proofs.runs.place_after.Given as goal

abbrev pub invariant-loop-i : goal.invariant-loop-i
invariant-loop-i l = (k : ℕ) (d : Held) → k < l.i → nat_lt l.run.0 (get_or l.runs k d).run.0 ≡ false
