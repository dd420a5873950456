use Rattle.std.proofs.Common.{◌++◌, ◌∷◌, [], ap, sym, ◌∙◌, subst, take, get_or, append_assoc}
use Rattle.std.proofs.lemmas.List.{take_more}
use Rattle.decimal_rank.specs.Decimals.Significands.{IsSignificand}
use Rattle.decimal_rank.proofs.decimals.significands.significand_of.Goals as goal

pub loop-byte-preserved : goal.loop-byte-preserved
loop-byte-preserved c =
    rw (take_more c.args.whole.now c.loop-byte.byte-index 0 c.loop-byte-test.true)
    (c.with-significand.ensures (take c.loop-byte.byte-index c.args.whole.now) c.loop-byte.invariant)

pub loop-byte-2-preserved : goal.loop-byte-2-preserved
loop-byte-2-preserved c =
    let whole = c.args.whole.now in
    let before = take c.loop-byte-2.byte-index c.args.fraction.now in
    let byte = get_or c.args.fraction.now c.loop-byte-2.byte-index 0 in
    subst (λ digits. IsSignificand digits c.with-significand-in-loop-byte-2.result)
    (append_assoc whole before (byte ∷ []) ∙ ap (λ digits. whole ++ digits) (sym (take_more c.args.fraction.now c.loop-byte-2.byte-index 0 c.loop-byte-2-test.true)))
    (c.with-significand-in-loop-byte-2.ensures (whole ++ before) c.loop-byte-2.invariant)
