use Rattle.std.proofs.Common.{◌≡◌, ◌<◌, ◌+◌, ap, sym, ◌∙◌, refl, arith, true, false, cond}
use Rattle.std.proofs.lemmas.Bool.Decides.{nat_tests}
use Rattle.decimal_rank.specs.Decimals.DecimalText.{is_zero}
use Rattle.decimal_rank.proofs.DecimalText.ReadDigits.{read_more, read_zero}
use Rattle.decimal_rank.proofs.decimals.significands.Significand.with.Goals as goal
use Rattle.decimal_rank.proofs.decimals.significands.Significand.with.Goals.{else-self-eq0-via-then-self-eq0+else-byte-eq48, else-self-eq0-via-else-self-eq0}

pub returns-then-byte-eq48 : goal.returns-then-byte-eq48
returns-then-byte-eq48 c = λ digits was. read_zero digits c.args.byte c.args.self was c.if-self-eq0.true (ap is_zero c.if-byte-eq48.true)

pub returns-then-byte-eq48-2 : goal.returns-then-byte-eq48-2
returns-then-byte-eq48-2 c = λ digits was.
    let zero : is_zero c.args.byte ≡ true = ap is_zero c.if-byte-eq48-2.true in
    let some : 0 < c.args.self.count = elim c.else-self-eq0.branch [
      | else-self-eq0-via-then-self-eq0+else-byte-eq48 w ↦ absurd (w.if-byte-eq48.false c.if-byte-eq48-2.true)
      | else-self-eq0-via-else-self-eq0 w ↦ omega (arith, w.if-self-eq0.false)
    ] in
    let one : c.args.self.zeros + 1 ≡ 1 + c.args.self.zeros = omega arith in
    read_more digits c.args.byte c.args.self _ was c.requires.digit (λ none. absurd (omega arith)) refl c.number_with.ensures.kept c.number_with.ensures.full
    (one ∙ ap (λ t. cond t (1 + c.args.self.zeros) 0) (sym zero)) (omega (arith, was.some some))

pub returns-else-byte-eq48-2 : goal.returns-else-byte-eq48-2
returns-else-byte-eq48-2 c = λ digits was.
    let other : is_zero c.args.byte ≡ false = grind (arith, nat_tests) in
    read_more digits c.args.byte c.args.self _ was c.requires.digit (λ _. other) refl c.number_with.ensures.kept c.number_with.ensures.full
    (ap (λ t. cond t (1 + c.args.self.zeros) 0) (sym other)) (omega arith)
