use Rattle.std.proofs.Common.{◌-◌, ◌%◌, ◌^◌, ◌∙◌, ℕ, ap, arith, sym, take}
use Rattle.std.specs.Int.RustNames.{count_ones}
use Rattle.std.proofs.Math.Nat.{one-le-pow}
use Rattle.std.proofs.lemmas.Nat.{and_mask, one_shl}
use lib.Bits.{bit_and}
use Rattle.rank_trees.proofs.Words.{number-take, ones-number}
use Rattle.rank_trees.proofs.count_trees.count_of.Goals as goal

pub overflow_sub-result : goal.overflow_sub-result
overflow_sub-result c = omega (arith, one_shl c.args.count 64 c.requires, one-le-pow c.args.count 2 (omega arith))

pub returns-clause-count : goal.returns-clause-count
returns-clause-count c = λ on is.
    ap (λ (n : ℕ). count_ones (bit_and c.args.word (n - 1))) (one_shl c.args.count 64 c.requires)
    ∙ ap count_ones (and_mask c.args.word c.args.count ∙ ap (λ (n : ℕ). n % 2 ^ c.args.count) is ∙ sym (number-take c.args.count on))
    ∙ ones-number (take c.args.count on)
