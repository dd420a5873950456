-- Each mean so far is that of its measure.
use Rattle.std.proofs.Common.{get_or}
use Rattle.measures.specs.declared.means.Measure.TheVariants.{Map}
use Rattle.measures.specs.Means.{mean_in, measure_count, measures}
use Rattle.measures.proofs.Places.{ArePlaced}
use Rattle.measures.proofs.means.means_in.Given as goal

abbrev pub invariant-loop-place : goal.invariant-loop-place
invariant-loop-place l = ArePlaced measure_count (λ place. mean_in l.summary (get_or measures place Map)) l.means l.place
