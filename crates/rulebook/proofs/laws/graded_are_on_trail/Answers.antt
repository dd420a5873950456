use Rattle.rulebook.proofs.Judgements.ListedDocuments.{graded-listed}
use Rattle.rulebook.proofs.laws.graded_are_on_trail.Goals as goal

pub returns : goal.returns
returns c = graded-listed
