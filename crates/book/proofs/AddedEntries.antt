-- One request adds one entry at most.
use Rattle.std.proofs.Common.{ℕ, ◌+◌, ◌≤◌, ◌==◌, Bool, true, false, cond, Option, None, Some, Ok, Err, ap, arith, length, length-append}
use Rattle.std.specs.Option.{option_map_or}
use Rattle.rulebook.specs.declared.limits.TheConstants.{MAX_ENTRIES}
use Rattle.rulebook.specs.declared.rules.Caller.{Caller}
use Rattle.rulebook.specs.declared.answer.Answer.{Answer}
use Rattle.rulebook.specs.declared.answer.Answer.TheVariants as answered
use Rattle.rulebook.specs.declared.ask.Addressed.{Addressed}
use Rattle.rulebook.specs.declared.ask.Ask.{Ask}
use Rattle.rulebook.specs.declared.ask.Ask.TheVariants.{Act, See}
use Rattle.rulebook.specs.declared.entry.Entry.{Entry}
use Rattle.rulebook.specs.declared.entry.EntryCore.{EntryCore}
use Rattle.rulebook.specs.declared.reply.Quantity.TheVariants as quantity
use Rattle.rulebook.specs.declared.reply.Refusal.TheVariants as refusal
use Rattle.rulebook.specs.declared.reply.Reply.TheVariants as reply
use Rattle.rulebook.specs.Answers.{adding_nothing, answer, answer_of_outcome, command_answer, command_outcome, moment_after, repeat_answer}
use Rattle.rulebook.specs.Campaign.{History}
use Rattle.rulebook.specs.Requests.Numbers.{entry_of_number}
use Rattle.rulebook.specs.Requests.Refusals.{Outcome}
use Rattle.rulebook.specs.Histories.Stories.{IsTold, Story, added_by}

acting-few : (core : EntryCore) (r : Outcome) → length (answer_of_outcome core r).added ≤ 1
acting-few core (Err r) = omega arith
acting-few core (Ok r) = omega arith

acted-few : (full : Bool) (core : EntryCore) (r : Outcome)
    → length (cond full (adding_nothing (reply.Refused (refusal.Limit quantity.Entries))) (answer_of_outcome core r)).added ≤ 1
acted-few true core r = omega arith
acted-few false core r = acting-few core r

added-few : (H : History) (who : Caller) (number : Option ℕ) (ask : Ask) (moment : ℕ) → length (answer H who number ask moment).added ≤ 1
added-few H who number (See q) moment = omega arith
added-few H who number (Act c) moment = by_use (entry_of_number H who.name number)
  where
    core : EntryCore
    core = record { caller = who; number = number; moment = moment_after H moment; command = c }

    by_use : (kept : Option (ℕ × Entry)) → length (option_map_or (repeat_answer c) kept (command_answer H core)).added ≤ 1
    by_use None = acted-few (length H == MAX_ENTRIES) core (command_outcome H who (moment_after H moment) c)
    by_use (Some placed) = omega arith

pub few_more : (before : Story) (asked : Addressed) (told : Answer) (after : Story)
    → IsTold before asked told after → length after.list ≤ length before.list + 1
few_more before asked (answered.Reply r) after is =
    let few = added-few before.list asked.who asked.number asked.ask asked.moment in
    let same = ap length is.leads.1 in
    let joined = length-append before.list (added_by before.list asked) in
    omega (arith, few, same, joined)
few_more before asked answered.DiskFault after is = let same = ap length is.leads.1 in omega (arith, same)
few_more before asked answered.Memory after is = let same = ap length is.leads in omega (arith, same)
