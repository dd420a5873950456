-- Plain replies: their names, docnos and titles are within their forms. Short replies: their text is bounded, whatever the campaign's size.
use Rattle.std.specs.Prelude.{ℕ, Bool, true, false, ◌&&◌, Option, IsTrue}
use Rattle.std.specs.List.{All, list_all}
use Rattle.trec_formats.specs.Names.{is_name, is_docno}
use Rattle.rulebook.specs.declared.rules.Caller.{Caller}
use Rattle.rulebook.specs.declared.ask.Command.{Command}
use Rattle.rulebook.specs.declared.ask.Ask.{Ask}
use Rattle.rulebook.specs.declared.ask.Ask.TheVariants.{Act}
use Rattle.rulebook.specs.declared.reply.Reply.{Reply}
use Rattle.rulebook.specs.declared.reply.Reply.TheVariants as reply
use Rattle.rulebook.specs.declared.entry.Entry.{Entry}
use Rattle.rulebook.specs.Answers.{answer}
use Rattle.rulebook.specs.Campaign.{History}
use Rattle.rulebook.specs.Histories.Legal.{IsLegal, is_well_addressed}
use Rattle.rulebook.specs.Requests.Limits.{max_title}
use Rattle.rulebook.specs.Spelling.{is_plain, is_printable}

abbrev pub is_plain_reply : Reply → Bool
is_plain_reply reply.Done = true
is_plain_reply (reply.Topics topics) = true
is_plain_reply (reply.Submitted run topics lines) = is_name run
is_plain_reply (reply.Leased lease topic doc until title) = is_name topic && is_docno doc && is_printable max_title title
is_plain_reply (reply.Graded topic doc grade) = is_name topic && is_docno doc
is_plain_reply (reply.Pool topic docs) = is_name topic && list_all is_docno docs
is_plain_reply (reply.Page text) = true
is_plain_reply (reply.Refused r) = true

-- a reply that is no pool and no page
abbrev pub is_short_reply : Reply → Bool
is_short_reply reply.Done = true
is_short_reply (reply.Topics topics) = true
is_short_reply (reply.Submitted run topics lines) = true
is_short_reply (reply.Leased lease topic doc until title) = true
is_short_reply (reply.Graded topic doc grade) = true
is_short_reply (reply.Pool topic docs) = false
is_short_reply (reply.Page text) = false
is_short_reply (reply.Refused r) = true

-- what a command may be answered
abbrev pub is_plain_and_short : Reply → Bool
is_plain_and_short r = is_plain_reply r && is_short_reply r

abbrev pub is_plain_entry : Entry → Bool
is_plain_entry e = is_plain e.core.command && is_plain_and_short e.reply

-- The entries of a legal history are plain.
abbrev pub EntriesArePlain : Type 0
EntriesArePlain = (H : History) → IsLegal H → All (λ e. IsTrue (is_plain_entry e)) H

-- A well addressed request to a legal history has a plain reply.
abbrev pub RepliesArePlain : Type 0
RepliesArePlain =
    (H : History) (who : Caller) (number : Option ℕ) (ask : Ask) (moment : ℕ) → IsLegal H
    → IsTrue (is_well_addressed who number ask moment) → IsTrue (is_plain_reply (answer H who number ask moment).reply)

-- A command has a short one.
abbrev pub CommandsAreAnsweredShort : Type 0
CommandsAreAnsweredShort =
    (H : History) (who : Caller) (number : Option ℕ) (c : Command) (moment : ℕ) → IsLegal H
    → IsTrue (is_well_addressed who number (Act c) moment) → IsTrue (is_short_reply (answer H who number (Act c) moment).reply)
