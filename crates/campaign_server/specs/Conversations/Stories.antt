-- What a campaign tells while it is asked.
use Rattle.std.specs.Prelude.{◌≡◌, Bool, true, false, length, drop}
use Rattle.rulebook.specs.declared.ask.Addressed.{Addressed}
use Rattle.rulebook.specs.declared.ask.Ask.{Ask}
use Rattle.rulebook.specs.declared.ask.Ask.TheVariants.{Act, See}
use Rattle.rulebook.specs.declared.reply.Reply.{Reply}
use Rattle.rulebook.specs.Campaign.{History}
use Rattle.rulebook.specs.Histories.Legal.{IsLegal}
use Rattle.rulebook.specs.Histories.Stories.{reply_by}

abbrev pub is_query : Ask → Bool
is_query (See q) = true
is_query (Act c) = false

-- the reply is the rules' behind some entries that can come about
abbrev pub IsByRules : Addressed → Reply → Type 0
IsByRules asked reply = (H : History) × IsLegal H × (reply ≡ reply_by H asked)

-- what stands behind the entries that were there before
abbrev pub added_since : History → History → History
added_since before after = drop (length before) after
