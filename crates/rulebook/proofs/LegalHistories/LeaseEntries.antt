-- Leases are what Lease entries were told, and a lease has an end where an entry gives it one.
use Rattle.std.proofs.Common.{◌≡◌, ◌⊎◌, inl, inr, ℕ, Bool, true, false, [], ◌∷◌, ◌++◌, Option, None, Some, Ok, filter, is_some, map, refl, sym, ap, ◌∙◌}
use Rattle.std.specs.Prelude.{if◌then◌else◌, ◌==◌}
use Rattle.std.specs.List.{cons_option}
use Rattle.std.specs.Option.{option_and_then, option_map_or}
use Rattle.std.proofs.lemmas.List.{map-append}
use Rattle.std.proofs.lemmas.List.Elements.{filter-append}
use Rattle.lease_desk.specs.declared.leases.LeaseEnd.{LeaseEnd}
use Rattle.rulebook.specs.declared.ask.Command.{Command}
use Rattle.rulebook.specs.declared.ask.Command.TheVariants as command
use Rattle.rulebook.specs.declared.entry.Entry.{Entry}
use Rattle.rulebook.specs.declared.reply.Reply.{Reply}
use Rattle.rulebook.specs.declared.rules.Caller.{Caller}
use Rattle.rulebook.specs.Answers.{command_outcome, moment_after}
use Rattle.rulebook.specs.Campaign.{EndedLease, History, tells}
use Rattle.rulebook.specs.Judgements.LeaseEntries.{AreLeaseEntries, asks_lease, end_in, end_with, end_of, lease_entries}
use Rattle.rulebook.specs.Judgements.Leases.{Lease, ends, is_ended, lease_in, leases}
use Rattle.rulebook.specs.Histories.Legal.{IsAccepted, IsLegal}
use Rattle.rulebook.specs.Words.{Text}
use Rattle.rulebook.proofs.LegalHistories.GrantedLeases.{IsGranted, lease_told, leases_numbered, leases_pushed, other_told}
use Rattle.rulebook.proofs.LegalHistories.LegalWalk.{accepted_of, legal_induction}

-- a command is told a lease where it asks for one, and no other is
abbrev IsToldLease : Bool → Option Lease → Type 0
IsToldLease true told = (lease : Lease) × (told ≡ Some lease)
IsToldLease false told = told ≡ None

module _ (H : History) (who : Caller) (now : ℕ) where
  not_asked : (c : Command) (told : Reply) → asks_lease c ≡ false
      → ((topic : Text) × (c ≡ command.Lease topic) × IsGranted H who now told topic) ⊎ (lease_in who.name told ≡ None)
      → lease_in who.name told ≡ None
  not_asked c told asks (inl (topic, is, granted)) = let no : true ≡ false = sym (ap asks_lease is) ∙ asks in cc no
  not_asked c told asks (inr none) = none

  told_lease : (c : Command) (told : Reply) → command_outcome H who now c ≡ Ok told → IsToldLease (asks_lease c) (lease_in who.name told)
  told_lease (command.Lease topic) told is = let granted = lease_told H who now topic told is in (_, ap (lease_in who.name) granted.told_is)
  told_lease c told is = not_asked c told refl (other_told H who now c told is)

abbrev told_to : Entry → Option Lease
told_to e = lease_in e.core.caller.name e.reply

abbrev AreEntered : History → Type 0
AreEntered H = map told_to (lease_entries H) ≡ map Some (leases H)

-- one entry's part of both lists
one_entered : (e : Entry) (asks : Bool) (told : Option Lease) → told_to e ≡ told → asks_lease e.core.command ≡ asks → IsToldLease asks told
    → map told_to (filter (λ e. asks_lease e.core.command) (e ∷ [])) ≡ map Some (cons_option (told_to e) [])
one_entered e true told is asks (lease, made) = rw (asks, is, made) refl
one_entered e false told is asks none = rw (asks, is, none) refl

entered_pushed : (before : History) (e : Entry) → IsLegal before → AreEntered before → IsAccepted before e → AreEntered (before ++ e ∷ [])
entered_pushed before e legal entered accepted =
    let who = e.core.caller in
    let now = moment_after before e.core.moment in
    let one = one_entered e (asks_lease e.core.command) (told_to e) refl refl
    (told_lease before who now e.core.command e.reply (accepted_of before e accepted).outcome_is) in
    ap (map told_to) (filter-append (λ (e : Entry). asks_lease e.core.command) before (e ∷ []))
    ∙ map-append told_to (lease_entries before) (filter (λ (e : Entry). asks_lease e.core.command) (e ∷ []))
    ∙ ap (λ first. first ++ map told_to (filter (λ (e : Entry). asks_lease e.core.command) (e ∷ []))) entered
    ∙ ap (λ last. map Some (leases before) ++ last) one
    ∙ sym (ap (map Some) (leases_pushed before e) ∙ map-append Some (leases before) (cons_option (told_to e) []))

pub leases_entered : (H : History) → IsLegal H → AreLeaseEntries H
leases_entered H legal = record {
  told = legal_induction AreEntered entered_pushed (λ first is. rw (is.2) refl) H legal;
  numbered = leases_numbered H legal;
}

-- an entry ends a lease where it gives it an end

some_where : {X : Type 0} (x : X) (t : Bool) → is_some (if t then Some x else None) ≡ t
some_where x true = refl
some_where x false = refl

end_given : (number : ℕ) (c : Command) → is_some (end_in number c) ≡ ends number c
end_given number c = step (tells c).lease_end
  where
    step : (o : Option EndedLease) → is_some (option_and_then (λ ended. if ended.number == number then Some (end_with ended.grade) else None) o)
        ≡ option_map_or (λ ended. ended.number == number) o false
    step None = refl
    step (Some ended) = some_where (end_with ended.grade) (ended.number == number)

pub ended_there : (H : History) (number : ℕ) → is_some (end_of H number) ≡ is_ended H number
ended_there [] number = refl
ended_there (e ∷ H) number = step (end_in number e.core.command) refl (ended_there H number)
  where
    step : (end : Option LeaseEnd) → end_in number e.core.command ≡ end → is_some (end_of H number) ≡ is_ended H number
        → is_some (end_of (e ∷ H) number) ≡ is_ended (e ∷ H) number
    step None is later = let here : ends number e.core.command ≡ false = sym (end_given number e.core.command) ∙ ap is_some is in rw (is, here) later
    step (Some end) is later = let here : ends number e.core.command ≡ true = sym (end_given number e.core.command) ∙ ap is_some is in rw (is, here) refl
