use Rattle.rulebook.proofs.LegalHistories.PlainReplies.{commands_short}
use Rattle.rulebook.proofs.laws.commands_are_answered_short.Goals as goal

pub returns : goal.returns
returns c = commands_short
