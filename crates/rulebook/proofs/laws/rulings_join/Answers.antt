use Rattle.rulebook.proofs.Judgements.NextEntries.{ruling-joined}
use Rattle.rulebook.proofs.laws.rulings_join.Goals as goal

pub returns : goal.returns
returns c = ruling-joined
