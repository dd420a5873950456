use Rattle.std.proofs.Common.{◌≡◌, arith}
use Rattle.measures.specs.Means.{measure_count}
use Rattle.measures.proofs.MeasureRows.{each_measure}
use Rattle.measures.proofs.Places.{all_placed, all_within, one_more, one_more_within}
use Rattle.measures.proofs.means.values_of.Goals as goal

pub value_of-requires-clause-measure : goal.value_of-requires-clause-measure
value_of-requires-clause-measure c = each_measure _ _ c.loop-place-test.true

pub loop-place-preserved : goal.loop-place-preserved
loop-place-preserved c = record {
  placed = one_more _ _ _ _ _ c.loop-place-test.true c.value_of.ensures.value c.loop-place.invariant.placed;
  within = one_more_within _ _ _ _ (omega (arith, c.loop-place.invariant.placed.long)) c.value_of.ensures.within c.loop-place.invariant.within;
}

pub returns-clause-values : goal.returns-clause-values
returns-clause-values c =
    let last : c.loop-place.place ≡ measure_count = omega arith in
    all_placed _ _ _ (rw last at c.loop-place.invariant.placed)

pub returns-clause-within : goal.returns-clause-within
returns-clause-within c =
    let last : c.loop-place.place ≡ measure_count = omega arith in
    all_within _ _ _ c.loop-place.invariant.placed.long (rw last at c.loop-place.invariant.within)
