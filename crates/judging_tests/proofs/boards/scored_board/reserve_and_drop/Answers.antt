use Rattle.std.proofs.Common.{ℕ, ap, arith, cond, length, refl}
use Rattle.std.proofs.lemmas.Bool.{eq-eqb}
use Rattle.judging_tests.proofs.boards.scored_board.reserve_and_drop.Goals as goal

pub drop_room-requires : goal.drop_room-requires
drop_room-requires c =
    let len = length c.args.ranking.now in
    let one = ap {B = ℕ} (λ t. cond t 1 0) (eq-eqb len len refl) in
    omega (arith, c.in_ok-reserve.ensures.room len, one)
