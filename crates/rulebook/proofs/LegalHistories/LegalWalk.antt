-- What holds of the founding entry, and stays with each accepted entry, holds of every legal history.
use Rattle.std.proofs.Common.{◌≡◌, ℕ, Bool, true, false, Option, None, Some, [], ◌∷◌, ◌++◌, Ok, Err, length, refl, sym, ap, ◌∙◌, subst}
use Rattle.std.specs.Prelude.{◌==◌, if◌then◌else◌}
use Rattle.std.specs.Option.{option_map_or}
use Rattle.std.proofs.lemmas.List.{append_assoc, append-nil}
use Rattle.rulebook.specs.Requests.Limits.{max_entries}
use Rattle.rulebook.specs.declared.ask.Ask.TheVariants.{Act}
use Rattle.rulebook.specs.declared.ask.Command.{Command}
use Rattle.rulebook.specs.declared.entry.Entry.{Entry}
use Rattle.rulebook.specs.declared.entry.EntryCore.{EntryCore}
use Rattle.rulebook.specs.declared.rules.Caller.{Caller}
use Rattle.rulebook.specs.declared.reply.Quantity.TheVariants as quantity
use Rattle.rulebook.specs.declared.reply.Refusal.TheVariants as refusal
use Rattle.rulebook.specs.declared.reply.Reply.TheVariants as reply
use Rattle.rulebook.specs.Answers.{Answer, adding_nothing, answer, answer_of_outcome, command_answer, command_outcome, moment_after, repeat_answer}
use Rattle.rulebook.specs.Campaign.{History}
use Rattle.rulebook.specs.Histories.Legal.{AreAccepted, IsAccepted, IsFounding, IsLegal, core_of}
use Rattle.rulebook.specs.Requests.Numbers.{entry_of_number}
use Rattle.rulebook.specs.Requests.Refusals.{Outcome}

accepted_more : (front later : History) (e : Entry) → AreAccepted front later → IsAccepted (front ++ later) e → AreAccepted front (later ++ e ∷ [])
accepted_more front [] e all accepted = (subst (λ H. IsAccepted H e) (append-nil front) accepted, tt)
accepted_more front (x ∷ later) e all accepted =
    (all.0, accepted_more (front ++ x ∷ []) later e all.1 (subst (λ H. IsAccepted H e) (sym (append_assoc front (x ∷ []) later)) accepted))

-- a legal history with an accepted entry is legal
pub legal_more : (before : History) (e : Entry) → IsLegal before → IsAccepted before e → IsLegal (before ++ e ∷ [])
legal_more [] e legal accepted = absurd legal
legal_more (first ∷ later) e legal accepted = (legal.0, accepted_more (first ∷ []) later e legal.1 accepted)

module _ (P : History → Type 0) (step : (before : History) (e : Entry) → IsLegal before → P before → IsAccepted before e → P (before ++ e ∷ [])) where
  along : (before later : History) → IsLegal before → P before → AreAccepted before later → P (before ++ later)
  along before [] legal holds accepted = subst P (sym (append-nil before)) holds
  along before (e ∷ later) legal holds accepted =
      subst P (append_assoc before (e ∷ []) later)
      (along (before ++ e ∷ []) later (legal_more before e legal accepted.0) (step before e legal holds accepted.0) accepted.1)

  pub legal_induction : ((first : Entry) → IsFounding first → P (first ∷ [])) → (H : History) → IsLegal H → P H
  legal_induction founding [] legal = absurd legal
  legal_induction founding (first ∷ later) legal = along (first ∷ []) later (legal.0, tt) (founding first legal.0) legal.1

-- a command whose number wasn't used is answered by its outcome
pub record IsUnused (H : History) (who : Caller) (number : Option ℕ) (c : Command) (moment : ℕ) : Type 0 where
  pub unused : entry_of_number H who.name number ≡ None
  pub acted_is : answer H who number (Act c) moment ≡ command_answer H (core_of who number (moment_after H moment) c)

-- what adds an entry is a command whose number wasn't used
pub unused_of : (H : History) (who : Caller) (number : Option ℕ) (c : Command) (moment : ℕ) (e : Entry)
    → (answer H who number (Act c) moment).added ≡ e ∷ [] → IsUnused H who number c moment
unused_of H who number c moment e added = step (entry_of_number H who.name number) refl added
  where
    core : EntryCore
    core = core_of who number (moment_after H moment) c

    step : (kept : Option (ℕ × Entry)) → entry_of_number H who.name number ≡ kept
        → (option_map_or (repeat_answer c) kept (command_answer H core)).added ≡ e ∷ [] → IsUnused H who number c moment
    step None is added = record { unused = is; acted_is = rw is refl }
    step (Some placed) is added = cc added

-- an accepted entry has the core that its request makes, the reply that the rules give, and a number that wasn't used
pub record Accepted (H : History) (e : Entry) : Type 0 where
  pub core_is : e.core ≡ core_of e.core.caller e.core.number (moment_after H e.core.moment) e.core.command
  pub outcome_is : command_outcome H e.core.caller (moment_after H e.core.moment) e.core.command ≡ Ok e.reply
  pub unused : entry_of_number H e.core.caller.name e.core.number ≡ None

pub accepted_of : (H : History) (e : Entry) → IsAccepted H e → Accepted H e
accepted_of H e accepted =
    step (length H == max_entries) (command_outcome H core.caller core.moment core.command) refl
    (ap (λ (a : Answer). a.added) (sym free.acted_is) ∙ accepted.added)
  where
    core : EntryCore
    core = core_of e.core.caller e.core.number (moment_after H e.core.moment) e.core.command

    free : IsUnused H e.core.caller e.core.number e.core.command e.core.moment
    free = unused_of H e.core.caller e.core.number e.core.command e.core.moment e accepted.added

    step : (full : Bool) (outcome : Outcome) → command_outcome H core.caller core.moment core.command ≡ outcome
        → (if full then adding_nothing (reply.Refused (refusal.Limit quantity.Entries)) else answer_of_outcome core outcome).added ≡ e ∷ [] → Accepted H e
    step true outcome is added = cc added
    step false (Err r) is added = cc added
    step false (Ok r) is added =
        let made : Entry = record { core = core; reply = r } in
        let same : made ≡ e = cc added in
        record { core_is = ap (λ (e : Entry). e.core) (sym same); outcome_is = is ∙ ap (λ (e : Entry). Ok e.reply) same; unused = free.unused }
