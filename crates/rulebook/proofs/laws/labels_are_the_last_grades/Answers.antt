use Rattle.rulebook.proofs.Judgements.LastGrades.{labels_last}
use Rattle.rulebook.proofs.laws.labels_are_the_last_grades.Goals as goal

pub returns : goal.returns
returns c = labels_last
