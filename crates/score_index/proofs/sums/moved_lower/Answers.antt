use Rattle.std.proofs.Common.{◌≡◌, ◌∙◌, ◌+◌, ◌-◌, Bool, List, arith, false, not, refl, set, subst, sym, true}
use Rattle.std.proofs.lemmas.List.{length-set}
use Rattle.score_index.specs.KeptSums.{AreSums, with_lower}
use Rattle.score_index.proofs.Cells.MovedSums.{moved, places_of, same_sums, set-same}
use Rattle.score_index.proofs.Cells.SumSteps.{lower-sum, preferences-fit}
use Rattle.score_index.specs.Places.{preferences}
use Rattle.score_index.proofs.sums.moved_lower.Given.{Over}
use Rattle.score_index.proofs.sums.moved_lower.Goals.{After-reached_past-past}
use Rattle.score_index.proofs.sums.moved_lower.Goals as goal

-- what the place takes from the sum
taken : (g : Over) (c : After-reached_past-past g)
    → preferences c.args.cap 0 c.args.trees.now.relevant (set c.args.trees.now.lower (c.args.place - 1) false)
    ≡ preferences c.args.cap 0 c.args.trees.now.relevant c.args.trees.now.lower + c.reached_past-past.result
taken g c =
    let on = c.requires.on in
    let sum = lower-sum c.args.cap c.args.trees.now.relevant c.args.trees.now.lower c.args.place on.0
    (omega (arith, on.1, c.len.ensures.long)) c.len.ensures.long on.2 in
    omega (arith, sum, c.reached_past-past.ensures.reached)

-- the sums without the place, where it becomes judged lower
without_place : (g : Over) (c : After-reached_past-past g) → c.args.on ≡ true → AreSums c.args.cap (with_lower c.args.place false c.args.trees.now) c.args.sums
without_place g c on = subst (λ b. AreSums c.args.cap (with_lower c.args.place (not b) c.args.trees.now) c.args.sums) on c.requires.sums

stays-on : (g : Over) (c : After-reached_past-past g) → set c.args.trees.now.lower (c.args.place - 1) true ≡ c.args.trees.now.lower
stays-on g c = set-same c.args.trees.now.lower (c.args.place - 1) true c.requires.on.2

-- the sums of the trees, where it no longer is
of_trees : (g : Over) (c : After-reached_past-past g) → c.args.on ≡ false → AreSums c.args.cap c.args.trees.now c.args.sums
of_trees g c on =
    let lower = c.args.trees.now.lower in
    same_sums c.args.cap c.args.trees.now.relevant (set lower (c.args.place - 1) true) c.args.trees.now.relevant lower c.args.sums refl (stays-on g c)
    (subst (λ b. AreSums c.args.cap (with_lower c.args.place (not b) c.args.trees.now) c.args.sums) on c.requires.sums)

pub overflow_sub-sums : goal.overflow_sub-sums
overflow_sub-sums g c =
    let all = (goal.at.overflow_sub-sums g c).After-reached_past-past in
    let are = without_place g all c.if-on.true in
    omega (arith, taken g all, are.preferences)

pub returns-then-on-clause-sums : goal.returns-then-on-clause-sums
returns-then-on-clause-sums g c =
    let all = (goal.at.returns-then-on-clause-sums g c).After-reached_past-past in
    let are = without_place g all c.if-on.true in
    let relevant = c.args.trees.now.relevant in
    let lower = c.args.trees.now.lower in
    let long = sym (length-set lower (c.args.place - 1) false) ∙ are.long in
    subst (λ b. AreSums c.args.cap (with_lower c.args.place b c.args.trees.now) c.with_preferences.result) (sym c.if-on.true)
    (subst (λ (l : List Bool). AreSums c.args.cap (places_of relevant l) c.with_preferences.result) (sym (stays-on g all))
    (moved c.args.cap c.args.cap relevant (set lower (c.args.place - 1) false) lower c.args.sums c.with_preferences.result
    (c.args.sums.preferences - c.reached_past-past.result) are
    long (omega (arith, taken g all, are.preferences)) c.with_preferences.ensures))

pub overflow_add-sums : goal.overflow_add-sums
overflow_add-sums g c =
    let all = (goal.at.overflow_add-sums g c).After-reached_past-past in
    let are = of_trees g all c.if-on.false in
    let fits = preferences-fit c.args.cap c.args.trees.now.relevant (set c.args.trees.now.lower (c.args.place - 1) false) are.few c.requires.few in
    omega (arith, taken g all, fits, are.preferences)

pub returns-clause-sums : goal.returns-clause-sums
returns-clause-sums g c =
    let all = (goal.at.returns-clause-sums g c).After-reached_past-past in
    let are = of_trees g all c.if-on.false in
    let relevant = c.args.trees.now.relevant in
    let lower = c.args.trees.now.lower in
    subst (λ b. AreSums c.args.cap (with_lower c.args.place b c.args.trees.now) c.with_preferences-2.result) (sym c.if-on.false)
    (moved c.args.cap c.args.cap relevant lower (set lower (c.args.place - 1) false) c.args.sums c.with_preferences-2.result
    (c.args.sums.preferences + c.reached_past-past.result) are
    (length-set lower (c.args.place - 1) false ∙ are.long) (omega (arith, taken g all, are.preferences)) c.with_preferences-2.ensures)
