use Rattle.rulebook.proofs.LegalHistories.AddedEntries.{added_accepted}
use Rattle.rulebook.proofs.laws.added_are_accepted.Goals as goal

pub returns : goal.returns
returns c = added_accepted
