use Rattle.rulebook.proofs.LegalHistories.LeaseEntries.{leases_entered}
use Rattle.rulebook.proofs.lease_laws.leases_are_entries.Goals as goal

pub returns : goal.returns
returns c = leases_entered
