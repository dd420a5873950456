use Rattle.labels.proofs.GradeMeanings.{label_after}
use Rattle.labels.proofs.laws.one_label_changes.Goals as goal

pub returns : goal.returns
returns c = label_after
