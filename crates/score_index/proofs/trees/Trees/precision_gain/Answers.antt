use Rattle.std.proofs.Common.{◌≡◌, ◌∙◌, ◌+◌, ◌*◌, ◌-◌, ℕ, List, Bool, ap, arith}
use Rattle.rank_trees.specs.PlacesOn.{count_on_below, weight, weights_above}
use Rattle.score_index.specs.Places.{Places, precision_gain}
use Rattle.score_index.proofs.Cells.SumSteps.{gain-fits, gain-is}
use Rattle.score_index.proofs.trees.Trees.precision_gain.Goals as goal

read : (on weights : List Bool) (place found weighs above : ℕ) → weights ≡ on → found ≡ count_on_below on place
    → weighs ≡ weight place → above ≡ weights_above weights place
    → (found + 1) * weighs + above ≡ (count_on_below on place + 1) * weight place + weights_above on place
read on weights place found weighs above same counted is weighed =
    ap (λ n. (n + 1) * weighs + above) counted ∙ ap (λ n. (count_on_below on place + 1) * n + above) is
    ∙ ap (λ n. (count_on_below on place + 1) * weight place + n) (weighed ∙ ap (λ w. weights_above w place) same)

pub overflow_add-result : goal.overflow_add-result
overflow_add-result g c =
    let is = read c.self.inside.relevant c.self.inside.weights c.args.place c.from-found.result c.weight.result c.above.result c.self.invariant.3
    (c.from-found.ensures ∙ c.below.ensures.count) c.weight.ensures.value c.above.ensures.weights in
    let fits = gain-fits c.self.inside.relevant c.args.place (omega (arith, c.self.invariant.0, c.self.invariant.1)) in
    omega (arith, is, fits)

pub returns-clause-gain : goal.returns-clause-gain
returns-clause-gain g c =
    read c.self.inside.relevant c.self.inside.weights c.args.place c.from-found.result c.weight.result c.above.result c.self.invariant.3
    (c.from-found.ensures ∙ c.below.ensures.count) c.weight.ensures.value c.above.ensures.weights
    ∙ gain-is c.self.inside.relevant c.args.place c.requires.from_one ∙ ap (λ (p : Places). precision_gain 1 0 p.relevant (c.args.place - 1)) c.self.view_is
