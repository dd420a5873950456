use Rattle.rulebook.proofs.LegalHistories.UsedNumbers.{kept_first}
use Rattle.rulebook.proofs.laws.kept_replies_are_first.Goals as goal

pub returns : goal.returns
returns c = kept_first
