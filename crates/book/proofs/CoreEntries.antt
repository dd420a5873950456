-- The entry of a core, answered again.
use Rattle.std.proofs.Common.{◌≡◌, ℕ, ◌<◌, ◌≤◌, Bool, true, false, [], ◌∷◌, ◌++◌, length, refl, sym, ap, subst, ◌∙◌, arith, le-leb}
use Rattle.std.specs.Prelude.{◌&&◌, IfOk, Result, Ok, Err, nat_le}
use Rattle.std.proofs.lemmas.Bool.{and_from}
use Rattle.campaign_core.specs.Commands.Replays.{EntersCore, added_again}
use Rattle.rulebook.specs.declared.limits.TheConstants.{MAX_ENTRY_BYTES}
use Rattle.rulebook.specs.declared.ask.Ask.TheVariants.{Act}
use Rattle.rulebook.specs.declared.entry.Entry.{Entry}
use Rattle.rulebook.specs.declared.entry.EntryCore.{EntryCore}
use Rattle.rulebook.specs.Histories.Additions.{IsAdded}
use Rattle.rulebook.specs.Campaign.{History, may_give}
use Rattle.rulebook.specs.Histories.Legal.{IsAccepted, IsLegal, is_well_addressed}
use Rattle.rulebook.specs.Spelling.{entry_bytes, has_spelling}
use Rattle.book.specs.Laws.{Laws}
use Rattle.book.specs.Opening.Replays.{Enters}
use Rattle.book.specs.Stories.{HasHistory, cores_of}
use Rattle.book.proofs.Payloads.AcceptedEntries.{accepted_givable, accepted_short}
use Rattle.book.proofs.Histories.{cores_push, ends}

-- the core of a well addressed request
pub addressed_core : (core : EntryCore) → (may_give core.caller.role core.command) ≡ true
    → has_spelling core ≡ true → length (entry_bytes core) ≤ MAX_ENTRY_BYTES
    → is_well_addressed core.caller core.number (Act core.command) core.moment ≡ true
addressed_core core givable spells short =
    and_from (may_give core.caller.role core.command && has_spelling core) (nat_le (length (entry_bytes core)) MAX_ENTRY_BYTES)
    (and_from (may_give core.caller.role core.command) (has_spelling core) givable spells) (le-leb (length (entry_bytes core)) MAX_ENTRY_BYTES short)

module _ (H : History) (core : EntryCore) (legal : IsLegal H) where
  -- one that no role may give
  pub enters_ungiven : (may_give core.caller.role core.command) ≡ false → Enters H core false H
  enters_ungiven not_given = (refl, ends H core legal none)
    where
      none : (e : Entry) → IsAccepted H e → e.core ≡ core → ⊥
      none e accepted same =
          let given : (may_give core.caller.role core.command) ≡ true
          = subst (λ (c : EntryCore). (may_give c.caller.role c.command) ≡ true) same (accepted_givable H e accepted) in
          let wrong : false ≡ true = sym not_given ∙ given in
          cc wrong

  -- one that is too long
  pub no_long : MAX_ENTRY_BYTES < length (entry_bytes core) → HasHistory (cores_of H ++ core ∷ []) → ⊥
  no_long long = ends H core legal (λ e accepted same. omega (arith, long, accepted_short H e accepted, ap (λ (c : EntryCore). length (entry_bytes c)) same))

  enters_core : Laws → is_well_addressed core.caller core.number (Act core.command) core.moment ≡ true → (entered : Bool) (after : History)
      → EntersCore H core entered after → Enters H core entered after
  enters_core laws addressed true after (e, added, moment, grown) =
      let w : IsAdded H core.caller core.number (Act core.command) core.moment e =
      laws.added H core.caller core.number (Act core.command) core.moment e legal addressed added in
      let here : e.core ≡ core = w.core core.command refl ∙ ap (λ (m : ℕ). let c : EntryCore = record core { moment = m } in c) moment in
      ap cores_of grown ∙ cores_push H e ∙ ap (λ (c : EntryCore). cores_of H ++ c ∷ []) here
  enters_core laws addressed false after (same, none) = (
    same,
    ends H core legal (λ e accepted is.
        none e (subst (λ (c : EntryCore). added_again H c ≡ e ∷ []) is accepted.added) (ap (λ (c : EntryCore). c.moment) is)),
  )

  pub enters_result : Laws → is_well_addressed core.caller core.number (Act core.command) core.moment ≡ true
      → {E : Type 0} (result : Result Bool E) (after : History)
      → IfOk result (λ entered. EntersCore H core entered after) → IfOk result (λ entered. Enters H core entered after)
  enters_result laws addressed (Ok entered) after enters = enters_core laws addressed entered after enters
  enters_result laws addressed (Err e) after enters = tt
