-- Each value so far is that of its measure, and at most 1.
use Rattle.std.proofs.Common.{ℕ, ◌^◌, ◌<◌, ◌≤◌, get_or}
use Rattle.measures.specs.declared.means.Measure.TheVariants.{Map}
use Rattle.measures.specs.Means.{measure_count, measures, value_of}
use Rattle.measures.proofs.Places.{ArePlaced}
use Rattle.measures.proofs.means.values_of.Given as goal

abbrev pub invariant-loop-place : goal.invariant-loop-place
invariant-loop-place l = record {
  placed : ArePlaced measure_count (λ place. value_of (get_or measures place Map) l.cell) l.values l.place;
  within : (k : ℕ) → k < l.place → get_or l.values k 0 ≤ 10 ^ 15;
}
