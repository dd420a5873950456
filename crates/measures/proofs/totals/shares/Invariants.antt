-- Each mean so far is its sum over the number of topics, or 0, and at most 1.
use Rattle.std.proofs.Common.{ℕ, ◌/◌, ◌^◌, ◌<◌, ◌≤◌, cond, eqb, get_or}
use Rattle.measures.specs.Means.{measure_count}
use Rattle.measures.proofs.Places.{ArePlaced}
use Rattle.measures.proofs.totals.shares.Given as goal

abbrev pub invariant-loop-place : goal.invariant-loop-place
invariant-loop-place l = record {
  placed : ArePlaced measure_count (λ place. cond (eqb l.topics 0) 0 (get_or l.sums place 0 / l.topics)) l.means l.place;
  within : (k : ℕ) → k < l.place → get_or l.means k 0 ≤ 10 ^ 15;
}
