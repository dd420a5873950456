use Rattle.std.proofs.Common.{◌≡◌, ◌≤ℤ◌, pos, negsuc, Ok, IfOk, rules, subst}
use Rattle.decimal_rank.specs.Decimals.Decimal.{DecimalValue}
use Rattle.decimal_rank.specs.Decimals.DecimalText.{canonical, decimal_of}
use Rattle.decimal_rank.proofs.DecimalText.Canonical.{aligned_reads_back, text_reads_back}
use Rattle.decimal_rank.proofs.decimals.Decimal.write.Goals as goal

pub returns-clause-read_back : goal.returns-clause-read_back
returns-clause-read_back c = λ low high.
    let text : IfOk c.write_parts.result (λ text. text ≡ canonical c.args.self.now) = search rules in
    let back = subst (λ (v : DecimalValue). negsuc 399 ≤ℤ v.exponent → v.exponent ≤ℤ pos 400 → decimal_of (canonical v) ≡ Ok v) c.self.view_is
    (aligned_reads_back _ _ _ _ c.self.invariant.0) in
    text_reads_back c.args.self.now c.write_parts.result text (back low high)
