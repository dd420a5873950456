use Rattle.std.proofs.Common.{sym}
use Rattle.routes.proofs.Callers.{found_named}
use Rattle.routes.proofs.openings.caller_with_key.Goals as goal

pub returns-in-Some-clause-named : goal.returns-in-Some-clause-named
returns-in-Some-clause-named c = found_named c.args.keys.now c.args.key.now c.in-Some.caller.now c.in-Some.ensures.callers (sym c.in-Some.ensures.caller)
