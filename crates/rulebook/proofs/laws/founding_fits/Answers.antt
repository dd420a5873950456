use Rattle.rulebook.proofs.LegalHistories.JournalSizes.{founding_fits}
use Rattle.rulebook.proofs.laws.founding_fits.Goals as goal

pub returns : goal.returns
returns c = founding_fits
