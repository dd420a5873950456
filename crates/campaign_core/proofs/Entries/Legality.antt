-- What keeps a history legal.
use Rattle.std.proofs.Common.{◌≡◌, ℕ, ◌-◌, ◌<◌, true, false, [], ◌∷◌, ◌++◌, None, Some, Ok, length, refl, ap, arith, max, length-append}
use Rattle.std.proofs.lemmas.Bool.Decides.{nat_tests}
use Rattle.std.specs.Prelude.{slice_get, ◌==◌}
use Rattle.std.specs.Option.{option_map_or}
use Rattle.rulebook.specs.declared.limits.TheConstants.{MAX_ENTRIES}
use Rattle.rulebook.specs.declared.ask.Ask.TheVariants.{Act}
use Rattle.rulebook.specs.declared.entry.Entry.{Entry}
use Rattle.rulebook.specs.declared.entry.EntryCore.{EntryCore}
use Rattle.rulebook.specs.Campaign.{History}
use Rattle.rulebook.specs.Answers.{command_outcome, moment_after}
use Rattle.rulebook.specs.Requests.Numbers.{entry_of_number}
use Rattle.rulebook.specs.Histories.Legal.{is_well_addressed, IsAccepted}

-- the entry of a core that the rules accept at its own moment
pub accepted-by : (H : History) (e : Entry) (core : EntryCore) → e.core ≡ core
    → is_well_addressed core.caller core.number (Act core.command) core.moment ≡ true
    → entry_of_number H core.caller.name core.number ≡ None
    → moment_after H core.moment ≡ core.moment
    → length H < MAX_ENTRIES
    → command_outcome H core.caller core.moment core.command ≡ Ok e.reply
    → IsAccepted H e
accepted-by H e core is addressed unused latest entries_fit accepted =
    let room : (length H == MAX_ENTRIES) ≡ false = grind (arith, nat_tests) in
    record {
      addressed = rw is addressed;
      added = rw (is, unused, latest, room, accepted, ← is) refl;
    }

at-length : (H : History) (e : Entry) → slice_get (H ++ e ∷ []) (length H) ≡ Some e
at-length [] e = refl
at-length (x ∷ H) e = at-length H e

last-of-push : (H : History) (e : Entry) → slice_get (H ++ e ∷ []) (length (H ++ e ∷ []) - 1) ≡ Some e
last-of-push H e =
    let place : length (H ++ e ∷ []) - 1 ≡ length H = omega (arith, length-append H (e ∷ [])) in
    rw place (at-length H e)

-- one more entry is the last one
pub moment_after-push : (H : History) (e : Entry) (m : ℕ) → moment_after (H ++ e ∷ []) m ≡ max m e.core.moment
moment_after-push H e m = ap (λ last. max m (option_map_or (λ x. x.core.moment) last 0)) (last-of-push H e)
