use Rattle.std.proofs.Common.{◌≡◌, arith}
use Rattle.measures.proofs.Places.{one_more, all_placed}
use Rattle.measures.proofs.cells.relevant_within.Goals as goal

pub loop-place-preserved : goal.loop-place-preserved
loop-place-preserved c = one_more _ _ _ _ _ c.loop-place-test.true c.relevant_to.ensures c.loop-place.invariant

pub returns : goal.returns
returns c =
    let last : c.loop-place.place ≡ 9 = omega arith in
    all_placed _ _ _ (rw last at c.loop-place.invariant)
