use Rattle.std.proofs.Common.{◌+◌, ◌-◌, arith}
use Rattle.score_index.proofs.Cells.MovedSums.{cap_up, moved}
use Rattle.score_index.proofs.Cells.SumSteps.{preferences-fit}
use Rattle.score_index.proofs.sums.with_cap.Goals as goal

pub overflow_add-sums : goal.overflow_add-sums
overflow_add-sums g c =
    let sum = cap_up c.args.from c.args.to c.args.trees.now.relevant c.args.trees.now.lower c.if-from-to.true c.requires.caps.up in
    let fits = preferences-fit c.args.to c.args.trees.now.relevant c.args.trees.now.lower c.requires.sums.few c.requires.caps.still_few in
    omega (arith, sum, fits, c.requires.sums.preferences, c.reached-reached.ensures.reached, c.from.ensures)

pub returns-then-from-to-clause-sums : goal.returns-then-from-to-clause-sums
returns-then-from-to-clause-sums g c =
    let sum = cap_up c.args.from c.args.to c.args.trees.now.relevant c.args.trees.now.lower c.if-from-to.true c.requires.caps.up in
    moved c.args.from c.args.to c.args.trees.now.relevant c.args.trees.now.lower c.args.trees.now.lower c.args.sums c.with_preferences.result
    (c.args.sums.preferences + c.from.result) c.requires.sums
    c.requires.sums.long (omega (arith, sum, c.requires.sums.preferences, c.reached-reached.ensures.reached, c.from.ensures)) c.with_preferences.ensures

pub overflow_sub-sums : goal.overflow_sub-sums
overflow_sub-sums g c =
    let sum = cap_up c.args.to c.args.from c.args.trees.now.relevant c.args.trees.now.lower c.if-to-from.true c.requires.caps.down in
    omega (arith, sum, c.requires.sums.preferences, c.reached-reached-then-to-from.ensures.reached, c.from-then-to-from.ensures)

pub returns-then-to-from-clause-sums : goal.returns-then-to-from-clause-sums
returns-then-to-from-clause-sums g c =
    let sum = cap_up c.args.to c.args.from c.args.trees.now.relevant c.args.trees.now.lower c.if-to-from.true c.requires.caps.down in
    moved c.args.from c.args.to c.args.trees.now.relevant c.args.trees.now.lower c.args.trees.now.lower c.args.sums c.with_preferences-then-to-from.result
    (c.args.sums.preferences - c.from-then-to-from.result) c.requires.sums
    c.requires.sums.long (omega (arith, sum, c.requires.sums.preferences, c.reached-reached-then-to-from.ensures.reached, c.from-then-to-from.ensures))
    c.with_preferences-then-to-from.ensures
