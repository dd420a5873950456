use Rattle.std.proofs.Common.{◌^◌, arith}
use Rattle.std.proofs.lemmas.List.FromFn.{get_or-map-range_with_len}
use Rattle.decimal_rank.proofs.decimals.power.Goals as goal

pub returns : goal.returns
returns c = get_or-map-range_with_len (λ n. 10 ^ n) 0 39 c.args.exponent c.args.exponent 0 (omega arith) (omega arith)
