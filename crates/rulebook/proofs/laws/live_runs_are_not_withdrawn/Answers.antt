use Rattle.rulebook.proofs.LegalHistories.LiveRuns.{live_unwithdrawn}
use Rattle.rulebook.proofs.laws.live_runs_are_not_withdrawn.Goals as goal

pub returns : goal.returns
returns c = live_unwithdrawn
