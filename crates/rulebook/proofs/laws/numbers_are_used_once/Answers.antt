use Rattle.rulebook.proofs.LegalHistories.UsedNumbers.{used_once}
use Rattle.rulebook.proofs.laws.numbers_are_used_once.Goals as goal

pub returns : goal.returns
returns c = used_once
