use Rattle.rulebook.proofs.LegalHistories.HoldingRuns.{holders_are}
use Rattle.rulebook.proofs.laws.holders_hold.Goals as goal

pub returns : goal.returns
returns c = holders_are
