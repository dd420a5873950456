use Rattle.rulebook.proofs.LegalHistories.LeaseEntries.{ended_there}
use Rattle.rulebook.proofs.lease_laws.ends_are_there.Goals as goal

pub returns : goal.returns
returns c = ended_there
