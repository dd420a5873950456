use Rattle.std.proofs.Common.{◌+◌, ◌/◌, ◌*◌, ◌∙◌, List, Bool, false, ap, arith, take}
use Rattle.std.proofs.lemmas.List.{take-replicate}
use Rattle.rank_trees.specs.PlacesOn.{weights_from}
use Rattle.rank_trees.proofs.SummedPlaces.{none-summed}
use Rattle.rank_trees.proofs.Weights.{weights-none, weights-off, weights-split}
use Rattle.rank_trees.proofs.weight_trees.WeightTree.new.Goals as goal

pub invariant_of-result : goal.invariant_of-result
invariant_of-result c =
    rw (c.in_ok-words.ensures, c.in_ok-weights.ensures)
    (none-summed weights_from weights-none weights-split 16 weights-off (c.args.places / 16 + 1) c.args.places c.requires)

pub returns : goal.returns
returns c = ap (λ (on : List Bool). take c.args.places on) c.in_ok-words.ensures
    ∙ take-replicate c.args.places (64 * (c.args.places / 64 + 1)) false (omega arith)
