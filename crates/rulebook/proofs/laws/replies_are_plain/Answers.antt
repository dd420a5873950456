use Rattle.rulebook.proofs.LegalHistories.PlainReplies.{replies_plain}
use Rattle.rulebook.proofs.laws.replies_are_plain.Goals as goal

pub returns : goal.returns
returns c = replies_plain
