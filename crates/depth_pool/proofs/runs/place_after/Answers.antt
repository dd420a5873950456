use Rattle.std.proofs.Common.{◌≡◌, ◌∙◌, ap, arith, sym, nat_lt, length, []}
use Rattle.std.proofs.lemmas.List.Sums.{position_or_len_is}
use Rattle.depth_pool.specs.Holdings.{Held}
use borrow.Author.Tests.{lt-ltb}
use Rattle.depth_pool.proofs.runs.place_after.Goals as goal

pub returns-then-run-held : goal.returns-then-run-held
returns-then-run-held c =
    let p = λ (held : Held). nat_lt c.args.run.0 held.run.0 in
    sym (position_or_len_is p c.args.runs.now c.loop-i.i c.index-runs-i.result (omega arith) (λ k. c.loop-i.invariant k c.index-runs-i.result)
    (λ _. ap p (sym (c.held.view_is ∙ c.index-runs-i.is)) ∙ lt-ltb _ _ c.if-run-held.true))

pub returns : goal.returns
returns c =
    let end : c.loop-i.i ≡ length c.args.runs.now = omega arith in
    sym (position_or_len_is (λ (held : Held). nat_lt c.args.run.0 held.run.0) c.args.runs.now (length c.args.runs.now)
    (record { run = c.args.run; docs = [] }) (omega arith) (λ k h. c.loop-i.invariant k _ (omega arith)) (λ h. absurd (omega arith)))
