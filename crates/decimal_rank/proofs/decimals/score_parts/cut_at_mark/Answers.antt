use Rattle.std.proofs.Common.{sym}
use Rattle.decimal_rank.specs.Decimals.DecimalText.{is_exponent_mark}
use Rattle.decimal_rank.proofs.DecimalText.Cuts.{any_at_place, behind_place, none_without_place}
use Rattle.decimal_rank.proofs.decimals.score_parts.cut_at_mark.Goals as goal

pub returns-in-Some-clause-behind : goal.returns-in-Some-clause-behind
returns-in-Some-clause-behind c = (
  any_at_place is_exponent_mark c.args.text.now c.in-Some.place (sym c.in-Some.ensures),
  behind_place is_exponent_mark c.args.text.now c.in-Some.place (sym c.in-Some.ensures),
)

pub returns-in-None-clause-behind : goal.returns-in-None-clause-behind
returns-in-None-clause-behind c = none_without_place is_exponent_mark c.args.text.now (sym c.in-None.ensures)
