use Rattle.std.proofs.Common.{◌∙◌, ap, arith, sym}
use Rattle.rank_trees.specs.PlacesOn.{count_on}
use Rattle.score_index.specs.Places.{Places, cap_reached_places}
use Rattle.score_index.proofs.Cells.SumSteps.{all-few, reached-of, reached-of-all}
use Rattle.score_index.proofs.trees.Trees.reached.Goals as goal

pub returns-in-Some-clause-reached : goal.returns-in-Some-clause-reached
returns-in-Some-clause-reached g c =
    c.below.ensures.count
    ∙ reached-of c.args.cap c.self.inside.relevant c.self.inside.lower c.in-Some.place (c.self.invariant.2 ∙ sym c.self.invariant.1) c.in-Some.ensures.place
    ∙ ap (λ (p : Places). cap_reached_places c.args.cap 0 p.relevant p.lower) c.self.view_is

pub returns-in-None-clause-reached : goal.returns-in-None-clause-reached
returns-in-None-clause-reached g c =
    c.requires ∙ ap (λ (p : Places). count_on p.relevant) (sym c.self.view_is)
    ∙ reached-of-all c.args.cap c.self.inside.relevant c.self.inside.lower (c.self.invariant.2 ∙ sym c.self.invariant.1) c.in-None.ensures.place
    ∙ ap (λ (p : Places). cap_reached_places c.args.cap 0 p.relevant p.lower) c.self.view_is

pub returns-in-None-clause-few : goal.returns-in-None-clause-few
returns-in-None-clause-few g c =
    let same = ap (λ (p : Places). count_on p.relevant) c.self.view_is in
    omega (arith, c.requires, same, all-few c.self.inside.relevant, c.self.invariant.0, c.self.invariant.1)
