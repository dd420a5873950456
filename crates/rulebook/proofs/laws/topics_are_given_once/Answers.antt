use Rattle.rulebook.proofs.LegalHistories.JournalSizes.{topics_once}
use Rattle.rulebook.proofs.laws.topics_are_given_once.Goals as goal

pub returns : goal.returns
returns c = topics_once
