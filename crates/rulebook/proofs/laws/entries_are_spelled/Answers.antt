use Rattle.rulebook.proofs.LegalHistories.SpelledEntries.{entries_spelled}
use Rattle.rulebook.proofs.laws.entries_are_spelled.Goals as goal

pub returns : goal.returns
returns c = entries_spelled
