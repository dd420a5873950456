use Rattle.rulebook.proofs.LegalHistories.GrantedLeases.{ended_once}
use Rattle.rulebook.proofs.laws.leases_end_once.Goals as goal

pub returns : goal.returns
returns c = ended_once
