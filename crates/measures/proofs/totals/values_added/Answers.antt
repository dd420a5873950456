use Rattle.std.proofs.Common.{◌≡◌, arith}
use Rattle.measures.specs.Means.{measure_count}
use Rattle.measures.proofs.Places.{all_placed}
use Rattle.measures.proofs.totals.values_added.Goals as goal

pub returns-clause-sums : goal.returns-clause-sums
returns-clause-sums c =
    let last : c.loop-place.place ≡ measure_count = omega arith in
    all_placed _ _ _ (rw last at c.loop-place.invariant.placed)
