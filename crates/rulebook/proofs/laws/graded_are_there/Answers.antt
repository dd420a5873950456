use Rattle.rulebook.proofs.Judgements.RuledDocuments.{graded-there}
use Rattle.rulebook.proofs.laws.graded_are_there.Goals as goal

pub returns : goal.returns
returns c = graded-there
