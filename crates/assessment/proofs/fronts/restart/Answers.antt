use Rattle.std.proofs.Common.{◌≤◌, ap, arith, length}
use Rattle.assessment.specs.Fronts.{Own}
use Rattle.assessment.proofs.FrontSteps.{restarted-past}
use Rattle.assessment.proofs.fronts.restart.Goals as goal

pub returns-else-place-len : goal.returns-else-place-len
returns-else-place-len c =
    let own = c.args.own.now in
    let beyond : length own.fronts ≤ c.args.run.0 =
    omega (arith, c.if-place-len.false, c.len.ensures, c.from-place.ensures, c.own.inside.fronts.ok.0, ap (λ (one : Own). length one.fronts) c.own.view_is) in
    restarted-past c.args.run own beyond
