use Rattle.decimal_rank.proofs.Standings.Values.{decimal_cmp_total}
use Rattle.decimal_rank.proofs.decimals.decimal_laws.decimals_have_an_order.Goals as goal

pub returns : goal.returns
returns c = decimal_cmp_total
