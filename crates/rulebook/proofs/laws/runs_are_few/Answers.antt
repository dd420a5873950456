use Rattle.rulebook.proofs.LegalHistories.JournalSizes.{runs_few}
use Rattle.rulebook.proofs.laws.runs_are_few.Goals as goal

pub returns : goal.returns
returns c = runs_few
