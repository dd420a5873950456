use Rattle.rulebook.proofs.LegalHistories.GrantedLeases.{grades_told}
use Rattle.rulebook.proofs.laws.grades_tell_their_leases.Goals as goal

pub returns : goal.returns
returns c = grades_told
