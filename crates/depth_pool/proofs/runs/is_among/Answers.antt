use Rattle.std.proofs.Common.{◌∙◌}
use Rattle.depth_pool.proofs.Search.{found_among}
use Rattle.depth_pool.proofs.runs.is_among.Goals as goal

pub returns : goal.returns
returns c =
    c.is_ok.ensures.value
    ∙ found_among c.args.run c.args.runs.now c.binary_search.result c.requires c.binary_search.ensures.position c.binary_search.ensures.bound
