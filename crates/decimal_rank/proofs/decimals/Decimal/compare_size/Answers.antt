use Rattle.std.proofs.Common.{inl, inr}
use Rattle.decimal_rank.proofs.Standings.Values.{cmp-with_zero, cmp-sizes}
use Rattle.decimal_rank.proofs.decimals.Decimal.compare_size.Goals as goal
use Rattle.decimal_rank.proofs.decimals.Decimal.compare_size.Goals.{then-self-eq0-via-then-self-eq0, then-self-eq0-via-else-self-eq0+then-other-eq0}

pub returns : goal.returns
returns c =
    let a = c.self.invariant.0 in
    let b = c.other.invariant.0 in
    rw (← c.self.view_is, ← c.other.view_is, c.then.ensures, c.cmp-2.ensures, c.cmp-3.ensures)
    (cmp-sizes _ _ _ _ _ _ a.padded b.padded a.below b.below (a.full c.if-self-eq0.false) (b.full c.if-other-eq0.false))

pub returns-then-self-eq0 : goal.returns-then-self-eq0
returns-then-self-eq0 c =
    rw (← c.self.view_is, ← c.other.view_is, c.cmp.ensures)
    (cmp-with_zero _ _ _ _ _ _ c.self.invariant.0.padded c.other.invariant.0.padded
    (elim c.then-self-eq0.branch [
      | then-self-eq0-via-then-self-eq0 w ↦ inl w.if-self-eq0.true
      | then-self-eq0-via-else-self-eq0+then-other-eq0 w ↦ inr w.if-other-eq0.true
    ]))
