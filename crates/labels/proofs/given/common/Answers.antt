use Rattle.std.proofs.Common.{◌∙◌, ap, sym, cond, Some, None}
use Rattle.labels.proofs.AgreeingLabels.{common_is}
use Rattle.labels.proofs.given.common.Goals as goal

pub returns-in-len1-up : goal.returns-in-len1-up
returns-in-len1-up c =
    sym (ap (λ agree. cond agree (Some c.first-item.result.grade) None) c.if-is_each.true)
    ∙ common_is c.args.need c.args.given.now c.first-item.result c.is_each.result c.in-len1-up.len_at_least
    c.first-item.is c.if-given-need.true c.is_each.ensures

pub returns-in_default-2 : goal.returns-in_default-2
returns-in_default-2 c =
    sym (ap (λ agree. cond agree (Some c.first-item.result.grade) None) c.if-is_each.false)
    ∙ common_is c.args.need c.args.given.now c.first-item.result c.is_each.result c.in-len1-up.len_at_least
    c.first-item.is c.if-given-need.true c.is_each.ensures
