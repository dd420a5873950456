use Rattle.std.proofs.Common.{◌+◌, ◌/◌, ◌*◌, ◌∙◌, List, Bool, false, ap, arith, take}
use Rattle.std.proofs.lemmas.List.{take-replicate}
use Rattle.rank_trees.specs.Blocks.{count_from}
use Rattle.rank_trees.proofs.Counts.{count-none, count-off, count-split}
use Rattle.rank_trees.proofs.SummedPlaces.{none-summed}
use Rattle.rank_trees.proofs.count_trees.CountTree.new.Goals as goal

pub invariant_of-result : goal.invariant_of-result
invariant_of-result c =
    rw (c.in_ok-words.ensures, c.in_ok-counts.ensures)
    (none-summed count_from count-none count-split 64 count-off (c.args.places / 64 + 1) c.args.places c.requires)

pub returns : goal.returns
returns c = ap (λ (on : List Bool). take c.args.places on) c.in_ok-words.ensures
    ∙ take-replicate c.args.places (64 * (c.args.places / 64 + 1)) false (omega arith)
