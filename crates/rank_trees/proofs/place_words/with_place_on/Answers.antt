use Rattle.std.proofs.Common.{◌+◌, ℕ, ap, ◌∙◌, sym, true, arith}
use Rattle.std.proofs.lemmas.Nat.{one_shl}
use Rattle.rank_trees.specs.Words.{bits}
use Rattle.rank_trees.proofs.Words.{bit-room, bits-on, bits-same, even-from}
use Rattle.rank_trees.proofs.place_words.with_place_on.Goals as goal

pub overflow_add-result : goal.overflow_add-result
overflow_add-result c =
    let off = even-from _ (sym c.is_on.ensures ∙ c.if-is_on.false) in
    let room = bit-room 64 c.args.word c.args.place c.requires (omega arith) off in
    omega (arith, room, one_shl c.args.place 64 c.requires)

pub returns-then-is_on : goal.returns-then-is_on
returns-then-is_on c = λ width less. bits-same width c.args.word c.args.place true less (sym c.is_on.ensures ∙ c.if-is_on.true)

pub returns : goal.returns
returns c = λ width less.
    ap (λ (n : ℕ). bits width (c.args.word + n)) (one_shl c.args.place 64 c.requires)
    ∙ bits-on width c.args.word c.args.place less (even-from _ (sym c.is_on.ensures ∙ c.if-is_on.false))
