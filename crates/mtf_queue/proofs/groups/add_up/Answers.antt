use Rattle.std.proofs.Common.{◌+◌, ◌<◌, arith, length, refl, set, subst, sym}
use Rattle.mtf_queue.proofs.GroupNumbers.{IsAddedUp, all-largest, more-added, none-added, sum-fits}
use Rattle.mtf_queue.proofs.groups.add_up.Goals as goal

pub loop-group-init : goal.loop-group-init
loop-group-init c = (none-added c.args.sizes.now.items, omega (arith, c.args.sizes.now.ok.0), refl)

pub overflow_add-before : goal.overflow_add-before
overflow_add-before c =
    let was = c.loop-group.invariant in
    let old = c.args.sizes.now.items in
    let within : c.loop-group.group < length old = omega (arith, was.1, c.loop-group-test.true) in
    omega (
      arith,
      c.requires,
      sum-fits old c.loop-group.sizes.items c.loop-group.group c.loop-group.before
          c.loop-group.largest c.index-size.result.now was.0 within c.index-size.ensures,
    )

pub loop-group-preserved : goal.loop-group-preserved
loop-group-preserved c =
    let was = c.loop-group.invariant in
    let old = c.args.sizes.now.items in
    let within : c.loop-group.group < length old = omega (arith, was.1, c.loop-group-test.true) in (
      subst (IsAddedUp old (set c.loop-group.sizes.items c.loop-group.group c.loop-group.before) (c.loop-group.group + 1)
          (c.loop-group.before + c.index-size.result.now)) (sym c.max-largest.ensures)
          (more-added old c.loop-group.sizes.items c.loop-group.group c.loop-group.before c.loop-group.largest
          c.index-size.result.now was.0 within c.index-size.ensures),
      was.1,
      was.2,
    )

pub returns-clause-sums : goal.returns-clause-sums
returns-clause-sums c = λ k h. c.loop-group.invariant.0.sums k (omega (arith, c.loop-group.invariant.1, c.loop-group-test.false))

pub returns-clause-largest : goal.returns-clause-largest
returns-clause-largest c =
    all-largest c.args.sizes.now.items c.loop-group.sizes.items c.loop-group.group c.loop-group.before c.loop-group.largest c.loop-group.invariant.0
    (omega (arith, c.loop-group.invariant.1, c.loop-group-test.false))
