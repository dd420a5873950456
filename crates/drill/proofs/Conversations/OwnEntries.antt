-- What a request adds is one entry at most, of its own caller and number; and a command that adds none is refused, unless its number was used.
use Rattle.std.proofs.Common.{◌≡◌, ◌+◌, ◌==◌, ◌⊎◌, inl, inr, ℕ, Bool, true, false, [], ◌∷◌, Err, None, Ok, Option, Some, length, refl}
use Rattle.std.specs.Prelude.{if◌then◌else◌}
use Rattle.std.specs.List.{enumerate_from, find, list_any}
use Rattle.std.specs.Option.{option_map_or}
use Rattle.std.proofs.lemmas.Bool.{or_parts}
use Rattle.rulebook.specs.Answers.{Answer, adding_nothing, answer, answer_of_outcome, command_answer, command_outcome, moment_after, repeat_answer}
use Rattle.rulebook.specs.Campaign.{History}
use Rattle.rulebook.specs.Requests.Limits.{max_entries}
use Rattle.rulebook.specs.Requests.Numbers.{entry_of_number, is_numbered}
use Rattle.rulebook.specs.Requests.Refusals.{Outcome}
use Rattle.rulebook.specs.Words.{Text}
use Rattle.rulebook.specs.declared.ask.Ask.{Ask}
use Rattle.rulebook.specs.declared.ask.Ask.TheVariants.{Act, See}
use Rattle.rulebook.specs.declared.ask.Command.{Command}
use Rattle.rulebook.specs.declared.entry.Entry.{Entry}
use Rattle.rulebook.specs.declared.entry.EntryCore.{EntryCore}
use Rattle.rulebook.specs.declared.reply.Quantity.TheVariants as quantity
use Rattle.rulebook.specs.declared.reply.Refusal.{Refusal}
use Rattle.rulebook.specs.declared.reply.Refusal.TheVariants as refusal
use Rattle.rulebook.specs.declared.reply.Reply.TheVariants as reply
use Rattle.rulebook.specs.declared.rules.Caller.{Caller}

-- a number that no entry of this name has
pub unused : (H : History) (name : Text) (number : ℕ) → list_any (is_numbered name number) H ≡ false → entry_of_number H name (Some number) ≡ None
unused H name number none = from 1 H none
  where
    from : (i : ℕ) (H : History) → list_any (is_numbered name number) H ≡ false → find (λ (placed : ℕ × Entry). is_numbered name number placed.1)
        (enumerate_from i H) ≡ None
    from i [] none = refl
    from i (e ∷ H) none = let parts = or_parts (is_numbered name number e) (list_any (is_numbered name number) H) none in rw parts.0 (from (i + 1) H parts.1)

-- no entry, or one of this caller and number
abbrev pub IsOneOf : Caller → Option ℕ → History → Type 0
IsOneOf who number more = (more ≡ []) ⊎ ((e : Entry) × (more ≡ e ∷ []) × (e.core.caller ≡ who) × (e.core.number ≡ number))

one-acting : (core : EntryCore) (ruling : Outcome) → IsOneOf core.caller core.number (answer_of_outcome core ruling).added
one-acting core (Ok r) = inr (record { core = core; reply = r }, refl, refl, refl)
one-acting core (Err r) = inl refl

one-acted : (H : History) (core : EntryCore) → IsOneOf core.caller core.number (command_answer H core).added
one-acted H core = by (length H == max_entries)
  where
    by : (full : Bool)
        → IsOneOf core.caller core.number (if full then adding_nothing (reply.Refused (refusal.Limit quantity.Entries)) else answer_of_outcome core
        (command_outcome H core.caller core.moment core.command)).added
    by true = inl refl
    by false = one-acting core (command_outcome H core.caller core.moment core.command)

pub one-added : (H : History) (who : Caller) (number : Option ℕ) (ask : Ask) (moment : ℕ) → IsOneOf who number (answer H who number ask moment).added
one-added H who number (See q) moment = inl refl
one-added H who number (Act c) moment = by (entry_of_number H who.name number)
  where
    core : EntryCore
    core = record { caller = who; number = number; moment = moment_after H moment; command = c }

    by : (kept : Option (ℕ × Entry)) → IsOneOf who number (option_map_or (repeat_answer c) kept (command_answer H core)).added
    by (Some placed) = inl refl
    by None = one-acted H core

-- a refusal, where nothing is added
abbrev pub IsRefusing : Answer → Type 0
IsRefusing given = given.added ≡ [] → (r : Refusal) × (given.reply ≡ reply.Refused r)

refusing-acting : (core : EntryCore) (ruling : Outcome) → IsRefusing (answer_of_outcome core ruling)
refusing-acting core (Ok r) none = cc none
refusing-acting core (Err r) none = (r, refl)

refusing-acted : (H : History) (core : EntryCore) → IsRefusing (command_answer H core)
refusing-acted H core = by (length H == max_entries)
  where
    by : (full : Bool) → IsRefusing (if full then adding_nothing (reply.Refused (refusal.Limit quantity.Entries)) else answer_of_outcome core
        (command_outcome H core.caller core.moment core.command))
    by true none = (refusal.Limit quantity.Entries, refl)
    by false none = refusing-acting core (command_outcome H core.caller core.moment core.command) none

pub refusing : (H : History) (who : Caller) (number : Option ℕ) (c : Command) (moment : ℕ) → entry_of_number H who.name number ≡ None
    → IsRefusing (answer H who number (Act c) moment)
refusing H who number c moment fresh = by (entry_of_number H who.name number) fresh
  where
    core : EntryCore
    core = record { caller = who; number = number; moment = moment_after H moment; command = c }

    by : (kept : Option (ℕ × Entry)) → kept ≡ None → IsRefusing (option_map_or (repeat_answer c) kept (command_answer H core))
    by (Some placed) fresh = cc fresh
    by None fresh = refusing-acted H core
