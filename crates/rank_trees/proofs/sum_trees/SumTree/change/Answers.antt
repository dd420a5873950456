use Rattle.std.proofs.Common.{◌+◌, ◌-◌, ◌^◌, ℕ, ap, ◌∙◌, arith, set, get_or}
use Rattle.rank_trees.proofs.Spans.{leaf-is, list-deep, list-long, room, set-leaves, set-tree}
use Rattle.rank_trees.proofs.sum_trees.SumTree.change.Goals as goal

pub change_leaf-requires : goal.change_leaf-requires
change_leaf-requires g c =
    let leaf = leaf-is c.self.inside.len c.self.inside.depth c.self.inside.nodes c.self.invariant
    c.args.self.now c.self.view_is c.args.index c.requires.within in
    record {
      sums = c.self.invariant.sums;
      within = omega (
        arith,
        c.requires.within,
        list-long c.self.inside.len c.self.inside.depth c.self.inside.nodes c.self.invariant c.args.self.now c.self.view_is,
        room c.self.inside.len c.self.inside.depth c.self.inside.nodes c.self.invariant,
      );
      least = omega (arith, c.requires.least, leaf);
      small = omega (arith, c.requires.small, leaf);
    }

pub invariant_of-self : goal.invariant_of-self
invariant_of-self g c =
    let within = list-long c.self.inside.len c.self.inside.depth c.self.inside.nodes c.self.invariant c.args.self.now c.self.view_is in
    set-tree c.self.inside.len c.self.inside.depth c.self.inside.nodes c.self.invariant c.change_leaf.new.nodes c.args.index
    (get_or c.self.inside.nodes (2 ^ c.self.inside.depth + c.args.index) 0 - c.args.less + c.args.more)
    (omega (arith, c.requires.within, within)) c.change_leaf.ensures.leaves c.change_leaf.ensures.sums

pub returns-clause-leaves : goal.returns-clause-leaves
returns-clause-leaves g c =
    let within = list-long c.self.inside.len c.self.inside.depth c.self.inside.nodes c.self.invariant c.args.self.now c.self.view_is in
    let leaf = leaf-is c.self.inside.len c.self.inside.depth c.self.inside.nodes c.self.invariant
    c.args.self.now c.self.view_is c.args.index c.requires.within in
    set-leaves c.self.inside.len c.self.inside.depth c.self.inside.nodes c.self.invariant c.change_leaf.new.nodes c.args.index
    (get_or c.self.inside.nodes (2 ^ c.self.inside.depth + c.args.index) 0 - c.args.less + c.args.more)
    (omega (arith, c.requires.within, within)) c.change_leaf.ensures.leaves c.args.self.now c.self.view_is
    ∙ ap (λ (n : ℕ). set c.args.self.now c.args.index (n - c.args.less + c.args.more)) leaf

pub returns-clause-cost : goal.returns-clause-cost
returns-clause-cost g c =
    omega (
      arith,
      c.change_leaf.ensures.cost,
      list-deep c.self.inside.len c.self.inside.depth c.self.inside.nodes c.self.invariant c.args.self.now c.self.view_is,
    )
