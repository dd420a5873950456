-- Group by group.
use Rattle.std.proofs.lemmas.Result.{err_from_is_err_and}
use Rattle.record_codec.proofs.BundleCodes.BundleSteps.{last_group, no_byte, no_groups, no_more, on_fault, one_more, too_high}
use Rattle.record_codec.proofs.bundles.varint_reading.+groups.Goals as goal

pub returns-then-most-eq0 : goal.returns-then-most-eq0
returns-then-most-eq0 t c = no_groups c.args.most c.args.left.now.bytes.now c.if-most-eq0.true

pub returns-in_err-low : goal.returns-in_err-low
returns-in_err-low t c =
    let p = err_from_is_err_and c.from_residual.result c.from_residual.ensures.1 in
    rw (p.1, p.2) (on_fault _ _ _ (no_byte c.args.most c.args.left.now.bytes.now c.if-most-eq0.false) c.in_err-low.ensures)

pub returns-then-low-lt128 : goal.returns-then-low-lt128
returns-then-low-lt128 t c =
    last_group c.args.most c.args.left.now.bytes.now c.if-most-eq0.false c.in_ok-low.low c.byte.new.self.bytes.now c.in_ok-low.ensures c.if-low-lt128.true

pub returns-in_err-high : goal.returns-in_err-high
returns-in_err-high t c =
    let p = err_from_is_err_and c.from_residual-in_err-high.result c.from_residual-in_err-high.ensures.1 in
    rw (p.1, p.2) (on_fault _ _ _
    (no_more c.args.most c.args.left.now.bytes.now c.if-most-eq0.false c.in_ok-low.low c.byte.new.self.bytes.now c.in_ok-low.ensures c.if-low-lt128.false)
    c.in_err-high.ensures)

pub returns-then-high-ge-HIGH_BOUND : goal.returns-then-high-ge-HIGH_BOUND
returns-then-high-ge-HIGH_BOUND t c =
    too_high c.args.most c.args.left.now.bytes.now c.if-most-eq0.false c.in_ok-low.low c.byte.new.self.bytes.now c.in_ok-low.ensures
    c.in_ok-high.high c.groups.new.left.bytes.now c.if-low-lt128.false c.in_ok-high.ensures c.if-high-ge-HIGH_BOUND.true

pub returns : goal.returns
returns t c =
    one_more c.args.most c.args.left.now.bytes.now c.if-most-eq0.false c.in_ok-low.low c.byte.new.self.bytes.now c.in_ok-low.ensures
    c.in_ok-high.high c.groups.new.left.bytes.now c.if-low-lt128.false c.in_ok-high.ensures c.if-high-ge-HIGH_BOUND.false
