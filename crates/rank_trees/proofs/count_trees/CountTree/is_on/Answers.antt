use Rattle.std.proofs.Common.{◌+◌, ◌-◌, ◌/◌, ◌∙◌, arith}
use Rattle.rank_trees.specs.Blocks.{count_from}
use Rattle.rank_trees.proofs.SummedPlaces.{len-is, place-read}
use Rattle.rank_trees.proofs.count_trees.CountTree.is_on.Goals as goal

pub is_on-requires : goal.is_on-requires
is_on-requires g c =
    let long = len-is count_from 64
    (c.self.inside.len / 64 + 1) c.self.inside.len c.self.inside.places c.self.inside.counts c.self.invariant c.args.self.now c.self.view_is in
    omega (arith, long, c.requires.within, c.requires.from_one, c.self.invariant.long)

pub returns-clause-on : goal.returns-clause-on
returns-clause-on g c =
    c.is_on.ensures.on
    ∙ place-read count_from 64 (c.self.inside.len / 64 + 1) c.self.inside.len c.self.inside.places c.self.inside.counts
    c.self.invariant c.args.self.now c.self.view_is (c.args.place - 1) (omega (arith, c.requires.within, c.requires.from_one))
