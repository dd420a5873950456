use Rattle.rulebook.proofs.LegalHistories.GrantedLeases.{labels_by_leases}
use Rattle.rulebook.proofs.laws.labels_go_by_leases.Goals as goal

pub returns : goal.returns
returns c = labels_by_leases
