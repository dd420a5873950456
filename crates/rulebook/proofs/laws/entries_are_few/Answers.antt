use Rattle.rulebook.proofs.LegalHistories.JournalSizes.{entries_few}
use Rattle.rulebook.proofs.laws.entries_are_few.Goals as goal

pub returns : goal.returns
returns c = entries_few
