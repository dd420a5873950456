use Rattle.std.proofs.Common.{◌≡◌, arith, sym, nat_lt, length}
use Rattle.std.proofs.lemmas.List.Sums.{position_or_len_is}
use Rattle.depth_pool.specs.declared.runs.RunId.{RunId}
use borrow.Author.Tests.{lt-ltb}
use Rattle.depth_pool.proofs.index.place_of.Goals as goal

pub returns-then-run-holder : goal.returns-then-run-holder
returns-then-run-holder c =
    sym (position_or_len_is (λ (holder : RunId). nat_lt c.args.run.0 holder.0) c.args.holders.now c.loop-i.i (record { 0 = 0 })
    (omega arith) c.loop-i.invariant (λ _. lt-ltb _ _ c.if-run-holder.true))

pub returns : goal.returns
returns c =
    let end : c.loop-i.i ≡ length c.args.holders.now = omega arith in
    sym (position_or_len_is (λ (holder : RunId). nat_lt c.args.run.0 holder.0) c.args.holders.now (length c.args.holders.now)
    (record { 0 = 0 }) (omega arith) (λ k h. c.loop-i.invariant k (omega arith)) (λ h. absurd (omega arith)))
