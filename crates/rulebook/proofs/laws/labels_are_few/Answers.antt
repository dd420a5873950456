use Rattle.rulebook.proofs.Judgements.FewLabels.{labels_few}
use Rattle.rulebook.proofs.laws.labels_are_few.Goals as goal

pub returns : goal.returns
returns c = labels_few
