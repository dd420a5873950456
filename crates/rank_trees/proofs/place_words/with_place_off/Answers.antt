use Rattle.std.proofs.Common.{◌-◌, ℕ, ap, ◌∙◌, sym, false, arith}
use Rattle.std.proofs.lemmas.Nat.{one_shl}
use Rattle.rank_trees.specs.Words.{bits}
use Rattle.rank_trees.proofs.Words.{bit-part, bits-off, bits-same, odd-from}
use Rattle.rank_trees.proofs.place_words.with_place_off.Goals as goal

pub overflow_sub-result : goal.overflow_sub-result
overflow_sub-result c =
    let part = bit-part c.args.word c.args.place (odd-from _ (sym c.is_on.ensures ∙ c.if-is_on.true)) in
    omega (arith, part, one_shl c.args.place 64 c.requires)

pub returns-then-is_on : goal.returns-then-is_on
returns-then-is_on c = λ width less.
    ap (λ (n : ℕ). bits width (c.args.word - n)) (one_shl c.args.place 64 c.requires)
    ∙ bits-off width c.args.word c.args.place less (odd-from _ (sym c.is_on.ensures ∙ c.if-is_on.true))

pub returns : goal.returns
returns c = λ width less. bits-same width c.args.word c.args.place false less (sym c.is_on.ensures ∙ c.if-is_on.false)
