use Rattle.std.proofs.Common.{◌∙◌, ap, map, sym, take}
use Rattle.std.proofs.lemmas.List.{take-map}
use Rattle.campaign_core.proofs.Numbers.NumberTables.{shown}
use Rattle.campaign_core.proofs.state.request_numbers.RequestNumbers.cut.Goals as goal

pub returns : goal.returns
returns c = ap (map shown) c.truncate.ensures.entries ∙ sym (take-map shown c.args.len c.self.inside.places.entries)
    ∙ ap (take c.args.len) c.self.view_is
