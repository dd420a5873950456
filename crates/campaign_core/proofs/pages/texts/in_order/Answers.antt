use Rattle.std.proofs.Common.{◌∙◌, ap}
use Rattle.std.proofs.lemmas.List.Filters.{dedup_is}
use Rattle.campaign_core.specs.Texts.{texts_behind}
use Rattle.campaign_core.proofs.Lists.SortedTexts.{same_now, sorted_once}
use Rattle.campaign_core.proofs.pages.texts.in_order.Goals as goal

pub returns : goal.returns
returns c =
    ap texts_behind (dedup_is same_now c.sort_unstable.new.self.items c.dedup.new.self.items c.dedup.ensures.filtered)
    ∙ sorted_once c.args.texts.items c.sort_unstable.new.self.items c.sort_unstable.ensures.permutation c.sort_unstable.ensures.sorted
