use Rattle.rulebook.proofs.LegalHistories.RisingMoments.{moments_rise}
use Rattle.rulebook.proofs.laws.moments_rise.Goals as goal

pub returns : goal.returns
returns c = moments_rise
