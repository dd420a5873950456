use Rattle.std.proofs.Common.{refl, ap, ◌∙◌, negsuc}
use Rattle.std.specs.Int.{int_gap}
use Rattle.decimal_rank.proofs.Standings.Keys.{keyed_size, key_within, kept_exponent}
use Rattle.decimal_rank.proofs.decimals.size_key.Goals as goal

pub returns-clause-key : goal.returns-clause-key
returns-clause-key c =
    keyed_size c.args.leading c.args.last _ c.raised.result c.requires.some refl
    (c.raised.ensures.value ∙ ap (int_gap (negsuc 1999)) (kept_exponent c.args.last c.requires.low c.requires.high))

pub returns-clause-within : goal.returns-clause-within
returns-clause-within c = key_within c.args.leading c.raised.result c.requires.below c.raised.ensures.few
