use Rattle.rulebook.proofs.Judgements.ListedDocuments.{listed-labelled}
use Rattle.rulebook.proofs.laws.labelled_are_listed.Goals as goal

pub returns : goal.returns
returns c = listed-labelled
