use Rattle.std.proofs.Common.{ℕ, ap, arith, cond, length, refl}
use Rattle.std.proofs.lemmas.Bool.{eq-eqb}
use Rattle.judging_tests.proofs.boards.scored_board.add.Goals as goal

pub add_run-requires-clause-room : goal.add_run-requires-clause-room
add_run-requires-clause-room c =
    let len = length c.args.ranking in
    let one = ap {B = ℕ} (λ t. cond t 1 0) (eq-eqb len len refl) in
    omega (arith, c.in_ok-reserve.ensures.room len, one)
