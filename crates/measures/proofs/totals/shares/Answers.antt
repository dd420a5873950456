use Rattle.std.proofs.Common.{◌≡◌, arith}
use Rattle.measures.specs.Means.{measure_count}
use Rattle.measures.proofs.Places.{all_placed, all_within}
use Rattle.measures.proofs.totals.shares.Goals as goal

pub returns-clause-shares : goal.returns-clause-shares
returns-clause-shares c =
    let last : c.loop-place.place ≡ measure_count = omega arith in
    all_placed _ _ _ (rw last at c.loop-place.invariant.placed)

pub returns-clause-within : goal.returns-clause-within
returns-clause-within c =
    let last : c.loop-place.place ≡ measure_count = omega arith in
    all_within _ _ _ c.loop-place.invariant.placed.long (rw last at c.loop-place.invariant.within)
