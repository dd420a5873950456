-- What the answer to a command is, by what was found for it.
use Rattle.std.proofs.Common.{◌≡◌, ◌<◌, ◌∙◌, ◌∷◌, [], ℕ, None, Option, Some, Ok, Err, ap, arith, false, length, refl, sym}
use Rattle.std.specs.Prelude.{◌==◌}
use Rattle.std.specs.Option.{option_map, option_map_or}
use Rattle.std.proofs.lemmas.Bool.Decides.{nat_tests}
use Rattle.decimal_rank.proofs.Lists.{none_mapped}
use Rattle.rulebook.specs.declared.ask.Ask.TheVariants.{Act}
use Rattle.rulebook.specs.declared.ask.Command.{Command}
use Rattle.rulebook.specs.declared.entry.Entry.{Entry}
use Rattle.rulebook.specs.declared.entry.EntryCore.{EntryCore}
use Rattle.rulebook.specs.declared.limits.TheConstants.{MAX_ENTRIES}
use Rattle.rulebook.specs.declared.reply.Quantity.TheVariants as quantity
use Rattle.rulebook.specs.declared.reply.Refusal.{Refusal}
use Rattle.rulebook.specs.declared.reply.Refusal.TheVariants as refusal
use Rattle.rulebook.specs.declared.reply.Reply.{Reply}
use Rattle.rulebook.specs.declared.reply.Reply.TheVariants as reply
use Rattle.rulebook.specs.declared.rules.Caller.{Caller}
use Rattle.rulebook.specs.Answers.{Answer, answer, command_answer, command_outcome, moment_after, repeat_answer}
use Rattle.rulebook.specs.Campaign.{History}
use Rattle.rulebook.specs.Histories.Legal.{core_of}
use Rattle.rulebook.specs.Requests.Numbers.{entry_of_number}
use Rattle.rulebook.specs.Words.{Text}
use Rattle.campaign_core.specs.Numbering.NumberedRequests.{repeated_reply}

-- where no reply is kept, the number is unused
pub number-unused : (H : History) (name : Text) (number : Option ℕ) (c : Command) → None ≡ repeated_reply H name number c → entry_of_number H name number ≡ None
number-unused H name number c is = none_mapped (λ placed. (repeat_answer c placed).reply) (entry_of_number H name number) (sym is)

again : (c : Command) (found : Option (ℕ × Entry)) (first : Answer) (r : Reply) → Some r ≡ option_map (λ placed. (repeat_answer c placed).reply) found
    → ((option_map_or (repeat_answer c) found first).added ≡ []) × (r ≡ (option_map_or (repeat_answer c) found first).reply)
again c (Some placed) first r is = (refl, cc is)
again c None first r is = cc is

-- a kept reply is the answer, and adds nothing
pub told-again : (H : History) (who : Caller) (number : Option ℕ) (c : Command) (moment : ℕ) (r : Reply) → Some r ≡ repeated_reply H who.name number c
    → ((answer H who number (Act c) moment).added ≡ []) × (r ≡ (answer H who number (Act c) moment).reply)
told-again H who number c moment r is =
    again c (entry_of_number H who.name number) (command_answer H (record { caller = who; number = number; moment = moment_after H moment; command = c })) r is

-- a full history takes no more
pub full-told : (H : History) (who : Caller) (number : Option ℕ) (c : Command) (moment : ℕ) → entry_of_number H who.name number ≡ None → length H ≡ MAX_ENTRIES
    → ((answer H who number (Act c) moment).added ≡ []) × (reply.Refused (refusal.Limit quantity.Entries) ≡ (answer H who number (Act c) moment).reply)
full-told H who number c moment unused full = rw (unused, full) (refl, refl)

-- the first command under its number, by the rulings on a copy of it
module _ (H K : History) (who caller : Caller) (number : Option ℕ) (c : Command) (moment now : ℕ) (unused : entry_of_number H who.name number ≡ None)
    (few : length H < MAX_ENTRIES) (back : K ≡ H) (same : caller ≡ who) (when : now ≡ moment_after H moment) where
  room : (length H == MAX_ENTRIES) ≡ false
  room = grind (arith, nat_tests)

  ruled-same : command_outcome H who (moment_after H moment) c ≡ command_outcome K caller now c
  ruled-same = sym
      (ap (λ (h : History). command_outcome h caller now c) back ∙ ap (λ (w : Caller). command_outcome H w now c) same
      ∙ ap (λ n. command_outcome H who n c) when)

  core-same : core_of who number (moment_after H moment) c ≡ core_of caller number now c
  core-same = sym (ap (λ (w : Caller). core_of w number now c) same ∙ ap (λ n. core_of who number n c) when)

  pub first-accepted : (e : Entry) → e.core ≡ core_of caller number now c → command_outcome K caller now c ≡ Ok e.reply
      → (answer H who number (Act c) moment).added ≡ e ∷ []
  first-accepted e core_is accepted =
      rw (unused, room, ruled-same ∙ accepted)
      (ap (λ (core : EntryCore). let one : Entry = record { core = core; reply = e.reply } in one ∷ []) (core-same ∙ sym core_is))

  pub first-refused : (why : Refusal) → command_outcome K caller now c ≡ Err why
      → ((answer H who number (Act c) moment).added ≡ []) × (reply.Refused why ≡ (answer H who number (Act c) moment).reply)
  first-refused why refused = rw (unused, room, ruled-same ∙ refused) (refl, refl)
