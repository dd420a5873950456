use Rattle.labels.proofs.GradeMeanings.{agreed}
use Rattle.labels.proofs.laws.effective_without_ruling.Goals as goal

pub returns : goal.returns
returns c = agreed
