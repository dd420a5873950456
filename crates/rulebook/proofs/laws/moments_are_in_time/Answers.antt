use Rattle.rulebook.proofs.LegalHistories.AddedEntries.{moments_in_time}
use Rattle.rulebook.proofs.laws.moments_are_in_time.Goals as goal

pub returns : goal.returns
returns c = moments_in_time
