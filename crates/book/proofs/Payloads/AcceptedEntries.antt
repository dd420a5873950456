-- An accepted entry has a spelling, which is a payload that unfolds to it alone.
use Rattle.std.proofs.Common.{◌≡◌, inr, ◌≤◌, true, [], ◌∷◌, length, refl, leb-true}
use Rattle.std.specs.Prelude.{◌&&◌, nat_le}
use Rattle.decimal_rank.proofs.TruthValues.{first_of_both, second_of_both}
use Rattle.record_codec.specs.Payloads.{IsPayload}
use Rattle.rulebook.specs.declared.entry.Entry.{Entry}
use Rattle.rulebook.specs.declared.limits.TheConstants.{MAX_ENTRY_BYTES}
use Rattle.rulebook.specs.Campaign.{History, may_give}
use Rattle.rulebook.specs.Histories.Legal.{IsAccepted}
use Rattle.rulebook.specs.Spelling.{entry_bytes, has_spelling}

pub accepted_spells : (H : History) (e : Entry) → IsAccepted H e → has_spelling e.core ≡ true
accepted_spells H e accepted =
    second_of_both (may_give e.core.caller.role e.core.command) (has_spelling e.core)
    (first_of_both (may_give e.core.caller.role e.core.command && has_spelling e.core)
    (nat_le (length (entry_bytes e.core)) MAX_ENTRY_BYTES) accepted.addressed)

-- which isn't too long
pub accepted_short : (H : History) (e : Entry) → IsAccepted H e → length (entry_bytes e.core) ≤ MAX_ENTRY_BYTES
accepted_short H e accepted =
    leb-true (length (entry_bytes e.core)) MAX_ENTRY_BYTES
    (second_of_both (may_give e.core.caller.role e.core.command && has_spelling e.core)
    (nat_le (length (entry_bytes e.core)) MAX_ENTRY_BYTES) accepted.addressed)

-- and is one that its role may give
pub accepted_givable : (H : History) (e : Entry) → IsAccepted H e → (may_give e.core.caller.role e.core.command) ≡ true
accepted_givable H e accepted =
    first_of_both (may_give e.core.caller.role e.core.command) (has_spelling e.core)
    (first_of_both (may_give e.core.caller.role e.core.command && has_spelling e.core)
    (nat_le (length (entry_bytes e.core)) MAX_ENTRY_BYTES) accepted.addressed)

pub accepted_payload : (H : History) (e : Entry) → IsAccepted H e → IsPayload (entry_bytes e.core) (e.core ∷ [])
accepted_payload H e accepted = inr (e.core, (accepted_spells H e accepted, refl), refl)
