use Rattle.std.proofs.Common.{sym}
use Rattle.decimal_rank.proofs.Standings.Values.{cmp-negatives, cmp-negative_first, cmp-negative_second, some_digits}
use Rattle.decimal_rank.proofs.decimals.Decimal.compare_whole.Goals as goal

pub returns-in-true-true : goal.returns-in-true-true
returns-in-true-true c =
    rw (← c.self.view_is, ← c.other.view_is, c.compare_size.ensures)
    (rw (← c.self.view_is, ← c.other.view_is) (cmp-negatives _ _ c.in-true-true.is-0 c.in-true-true.is-1))

pub returns-in-true-false : goal.returns-in-true-false
returns-in-true-false c =
    rw (← c.self.view_is, ← c.other.view_is)
    (sym (cmp-negative_first _ _ c.in-true-false.is-0 c.in-true-false.is-1 (some_digits _ _ _ _ c.self.invariant.0 c.in-true-false.is-0)))

pub returns-in-false-true : goal.returns-in-false-true
returns-in-false-true c =
    rw (← c.self.view_is, ← c.other.view_is)
    (sym (cmp-negative_second _ _ c.in-false-true.is-0 c.in-false-true.is-1 (some_digits _ _ _ _ c.other.invariant.0 c.in-false-true.is-1)))
