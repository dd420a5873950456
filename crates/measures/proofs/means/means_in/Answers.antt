use Rattle.std.proofs.Common.{◌≡◌, arith}
use Rattle.measures.specs.Means.{measure_count}
use Rattle.measures.proofs.MeasureRows.{each_measure}
use Rattle.measures.proofs.Places.{all_placed, one_more}
use Rattle.measures.proofs.means.means_in.Goals as goal

pub mean_of-requires : goal.mean_of-requires
mean_of-requires c = each_measure _ _ c.loop-place-test.true

pub loop-place-preserved : goal.loop-place-preserved
loop-place-preserved c = one_more _ _ _ _ _ c.loop-place-test.true c.mean_of.ensures c.loop-place.invariant

pub returns : goal.returns
returns c =
    let last : c.loop-place.place ≡ measure_count = omega arith in
    all_placed _ _ _ (rw last at c.loop-place.invariant)
