use Rattle.std.proofs.Common.{ap, sym}
use Rattle.std.proofs.lemmas.List.{drop_all}
use Rattle.depth_pool.specs.Holdings.{has_id}
use Rattle.mtf_queue.proofs.HolderWalks.{first-is}
use Rattle.mtf_queue.proofs.groups.is_at.Goals as goal

pub returns-in-Some : goal.returns-in-Some
returns-in-Some c =
    first-is c.args.holders.now c.args.index c.args.run c.in-Some.holder.now c.requires.ascending
    c.in-Some.ensures.lookup.3.0 c.in-Some.ensures.lookup.1 c.requires.ahead

pub returns-in-None : goal.returns-in-None
returns-in-None c = sym (ap (has_id c.args.run) (drop_all c.args.index c.args.holders.now c.in-None.ensures.lookup.3))
