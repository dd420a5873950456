use Rattle.std.proofs.Common.{◌∷◌, subst, sym}
use Rattle.depth_pool.specs.Holdings.{pool_holds}
use Rattle.mtf_queue.specs.Groups.{AreGrouped}
use Rattle.mtf_queue.proofs.GroupOrder.{grouped_ungraded}
use Rattle.mtf_queue.proofs.groups.cut_by.Goals as goal

pub returns-in-Some-clause-grouped : goal.returns-in-Some-clause-grouped
returns-in-Some-clause-grouped g c = λ docs was.
    let held = pool_holds c.args.pool.now.runs in
    let doc = c.args.judged.doc in
    subst (λ grade. AreGrouped held (record { doc = doc; relevant = grade } ∷ docs) c.cut.new.members.items)
    (sym c.in-Some.is) (c.cut.ensures.grouped held docs doc c.holders.ensures.each was)

pub returns-in-None-clause-grouped : goal.returns-in-None-clause-grouped
returns-in-None-clause-grouped g c = λ docs was. grouped_ungraded (pool_holds c.args.pool.now.runs) docs c.args.judged c.args.members.now.items c.in-None.is was
