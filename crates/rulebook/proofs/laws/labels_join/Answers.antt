use Rattle.rulebook.proofs.Judgements.NextEntries.{label-joined}
use Rattle.rulebook.proofs.laws.labels_join.Goals as goal

pub returns : goal.returns
returns c = label-joined
