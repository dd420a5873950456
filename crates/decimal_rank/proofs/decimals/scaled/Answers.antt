use Rattle.std.proofs.Common.{◌+◌, ◌-◌, ◌*◌, ◌/◌, ◌^◌, ◌≤◌, arith, ap, sym, ◌∙◌, subst, zero-mul}
use Rattle.std.proofs.lemmas.Int.{ints}
use Rattle.decimal_rank.proofs.DecimalText.Shifts.{shifted, from_one, some_count, fits_38, fills_38, few_zeros, div-shifted, aligned, value_is}
use Rattle.decimal_rank.proofs.DecimalText.Scores.{scaled_some}
use Rattle.decimal_rank.proofs.decimals.scaled.Goals as goal

pub overflow_add-padding : goal.overflow_add-padding
overflow_add-padding c =
    let s = shifted c.args.digits c.args.count c.args.zeros c.if-digits-eq0.false c.requires.few c.requires.below c.requires.zeros in
    omega (arith, few_zeros (c.args.digits / 10 ^ c.args.zeros) (c.args.digits * 10 ^ (38 - c.args.count)) (c.args.zeros + (38 - c.args.count)) s)

pub overflow_mul-leading : goal.overflow_mul-leading
overflow_mul-leading c =
    let below = fits_38 c.args.digits c.args.count c.requires.few c.requires.below in rw c.power.ensures (omega (arith, below))

pub keyed-requires-clause-some : goal.keyed-requires-clause-some
keyed-requires-clause-some c =
    let s = shifted c.args.digits c.args.count c.args.zeros c.if-digits-eq0.false c.requires.few c.requires.below c.requires.zeros in
    rw c.power.ensures
    (λ none. absurd
    (let one : 1 ≤ 0 =
    subst (λ n. 1 ≤ n) none
    (from_one (c.args.digits / 10 ^ c.args.zeros) (c.args.digits * 10 ^ (38 - c.args.count)) (c.args.zeros + (38 - c.args.count)) s) in omega arith))

pub keyed-requires-clause-aligned : goal.keyed-requires-clause-aligned
keyed-requires-clause-aligned c =
    let s = shifted c.args.digits c.args.count c.args.zeros c.if-digits-eq0.false c.requires.few c.requires.below c.requires.zeros in
    let few = few_zeros (c.args.digits / 10 ^ c.args.zeros) (c.args.digits * 10 ^ (38 - c.args.count)) (c.args.zeros + (38 - c.args.count)) s in
    let some = some_count c.args.digits c.args.count c.if-digits-eq0.false c.requires.below in
    let full = fills_38 c.args.digits c.args.count c.requires.few some (c.requires.full some) in
    rw c.power.ensures
    (aligned c.args.negative (c.args.digits / 10 ^ c.args.zeros) _ _ _ s full (c.requires.trimmed c.if-digits-eq0.false)
    (omega (arith, ints, few, c.from.ensures)) (omega (arith, ints, few, c.from.ensures)))

pub returns : goal.returns
returns c =
    let s = shifted c.args.digits c.args.count c.args.zeros c.if-digits-eq0.false c.requires.few c.requires.below c.requires.zeros in
    let few = few_zeros (c.args.digits / 10 ^ c.args.zeros) (c.args.digits * 10 ^ (38 - c.args.count)) (c.args.zeros + (38 - c.args.count)) s in
    c.keyed.ensures
    ∙ rw c.power.ensures
    (value_is c.args.negative _ _ (c.args.digits / 10 ^ c.args.zeros) _ c.args.exponent
    (div-shifted (c.args.digits / 10 ^ c.args.zeros) _ _ s) (omega (arith, ints, few, c.from.ensures))
    ∙ sym (scaled_some c.args.negative (c.args.digits / 10 ^ c.args.zeros) c.args.exponent
    (λ none. c.if-digits-eq0.false (sym c.requires.zeros ∙ ap (λ d. d * 10 ^ c.args.zeros) none ∙ zero-mul (10 ^ c.args.zeros)))))
