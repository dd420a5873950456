-- What a command comes to is told.
use Rattle.campaign_cli.specs.Causes.{ending_of}
use Rattle.campaign_cli.specs.Kinds.{ended}
use Rattle.campaign_cli.proofs.program.run_and_tell.Goals as goal

pub returns-clause-ends : goal.returns-clause-ends
returns-clause-ends g c =
    ended (ending_of c.run-outcome.result.0) (c.run-outcome.ensures.ends (g.O.Output.writing c.args.out.now) (g.O.Output.writing c.tell.new.out)) c.tell.ensures
