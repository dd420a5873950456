use Rattle.rulebook.proofs.LegalHistories.JournalSizes.{legal_fit}
use Rattle.rulebook.proofs.laws.legal_fit.Goals as goal

pub returns : goal.returns
returns c = legal_fit
