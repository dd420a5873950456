use Rattle.std.proofs.Common.{◌%◌, subst}
use Rattle.std.specs.Option.{option_map}
use Rattle.decimal_rank.proofs.BucketTables.Walks.{IsWalked, walk_goes_on, walk_ends, walk_shrinks}
use Rattle.decimal_rank.proofs.tables.searches.first_found.Goals as goal

pub loop-next-smaller : goal.loop-next-smaller
loop-next-smaller g c =
    let is = g.S.Sought.finds c.args.sought.now in
    let bucket = c.args.key % c.args.chains.now.room in
    let walked =
    subst (λ next. IsWalked is c.args.chains.now c.args.items.now c.args.key next (option_map (λ item. item.now) c.loop-next.found))
    c.in-Some.is c.loop-next.invariant in
    rw c.in-Some.is (walk_shrinks c.args.chains.now.items c.in-Some.place bucket c.earlier-next.result (c.earlier-next.ensures bucket walked.newest.1))

pub loop-next-preserved : goal.loop-next-preserved
loop-next-preserved g c =
    let is = g.S.Sought.finds c.args.sought.now in
    let bucket = c.args.key % c.args.chains.now.room in
    let walked =
    subst (λ next. IsWalked is c.args.chains.now c.args.items.now c.args.key next (option_map (λ item. item.now) c.loop-next.found))
    c.in-Some.is c.loop-next.invariant in
    rw c.nearer-found.ensures (walk_goes_on is c.args.chains.now c.args.items.now c.args.key c.in-Some.place c.earlier-next.result _ c.index-items-place.result
    c.requires walked c.index-items-place.is (c.earlier-next.ensures bucket walked.newest.1))

pub returns : goal.returns
returns g c =
    let is = g.S.Sought.finds c.args.sought.now in
    walk_ends is c.args.chains.now c.args.items.now c.args.key _ c.requires
    (subst (λ next. IsWalked is c.args.chains.now c.args.items.now c.args.key next (option_map (λ item. item.now) c.loop-next.found))
    c.in_default.is c.loop-next.invariant)
