-- No holder so far has a greater number than the run.
use Rattle.std.proofs.Common.{◌≡◌, ℕ, ◌<◌, nat_lt, false, get_or}
use Rattle.depth_pool.proofs.index.place_of.Given as goal

abbrev pub invariant-loop-i : goal.invariant-loop-i
invariant-loop-i l = (k : ℕ) → k < l.i → nat_lt l.run.0 (get_or l.holders k (record { 0 = 0 })).0 ≡ false
