-- Each sum so far has the value of its measure added, and is at most 1 more than it was.
use Rattle.std.proofs.Common.{ℕ, ◌+◌, ◌^◌, ◌<◌, ◌≤◌, get_or}
use Rattle.measures.specs.Means.{measure_count}
use Rattle.measures.proofs.Places.{ArePlaced}
use Rattle.measures.proofs.totals.values_added.Given as goal

abbrev pub invariant-loop-place : goal.invariant-loop-place
invariant-loop-place l = record {
  placed : ArePlaced measure_count (λ place. get_or l.sums place 0 + get_or l.values place 0) l.added l.place;
  within : (k : ℕ) → k < l.place → get_or l.added k 0 ≤ get_or l.sums k 0 + 10 ^ 15;
}
