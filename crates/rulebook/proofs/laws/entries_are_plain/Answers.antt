use Rattle.rulebook.proofs.LegalHistories.PlainReplies.{entries_plain}
use Rattle.rulebook.proofs.laws.entries_are_plain.Goals as goal

pub returns : goal.returns
returns c = entries_plain
