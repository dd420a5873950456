use Rattle.decimal_rank.proofs.Standings.Keys.{cmp-keys}
use Rattle.decimal_rank.proofs.decimals.Decimal.compare.Goals as goal

pub returns-in_default : goal.returns-in_default
returns-in_default c =
    rw (← c.self.view_is, ← c.other.view_is)
    (cmp-keys _ _ _ _ _ _ _ _ c.self.invariant.0 c.other.invariant.0 c.cmp.result
    (rw (c.self.invariant.1, c.other.invariant.1) at c.cmp.ensures) c.in_default.not-Equal)
