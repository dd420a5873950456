use Rattle.rulebook.proofs.Judgements.NextEntries.{quiet-kept}
use Rattle.rulebook.proofs.laws.quiet_entries_keep_grades.Goals as goal

pub returns : goal.returns
returns c = quiet-kept
