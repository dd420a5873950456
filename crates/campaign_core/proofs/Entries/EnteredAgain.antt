-- What the rules add for the request of an entry that is entered again.
use Rattle.std.proofs.Common.{◌≡◌, ◌≢◌, ◌<◌, ◌∙◌, ◌∷◌, [], ℕ, Bool, Err, None, Ok, Option, Some, ap, eq-eqb, eqb-true, false, is_some, length, refl, sym, true}
use Rattle.std.specs.Prelude.{◌==◌}
use Rattle.std.specs.Option.{option_map_or}
use Rattle.decimal_rank.proofs.Lists.{none_is}
use Rattle.rulebook.specs.declared.entry.Entry.{Entry}
use Rattle.rulebook.specs.declared.entry.EntryCore.{EntryCore}
use Rattle.rulebook.specs.declared.limits.TheConstants.{MAX_ENTRIES}
use Rattle.rulebook.specs.Answers.{command_answer, command_outcome, moment_after, repeat_answer}
use Rattle.rulebook.specs.Campaign.{History}
use Rattle.rulebook.specs.Requests.Numbers.{entry_of_number}
use Rattle.rulebook.specs.Requests.Refusals.{Outcome}
use Rattle.rulebook.specs.Words.{Text}
use Rattle.campaign_core.specs.Numbering.NumberedRequests.{numbers_of, place_of_number}
use Rattle.campaign_core.specs.Commands.Replays.{AddsNone, IsNext, added_again}
use Rattle.campaign_core.proofs.Entries.CommandAnswers.{first-accepted, first-refused, full-told}
use Rattle.campaign_core.proofs.Numbers.UsedNumbers.{unused-there, used-at}

-- where nothing is added
pub none-added : (H : History) (core : EntryCore) → added_again H core ≡ [] → AddsNone H core
none-added H core none e is same = let wrong : [] ≡ e ∷ [] = sym none ∙ is in absurd (cc wrong)

-- a number that was used
pub used-again : (H : History) (core : EntryCore) → is_some (entry_of_number H core.caller.name core.number) ≡ true → AddsNone H core
used-again H core is = none-added H core (step (entry_of_number H core.caller.name core.number) is)
  where
    step : (found : Option (ℕ × Entry)) → is_some found ≡ true
        → (option_map_or (repeat_answer core.command) found
        (command_answer H (record { caller = core.caller; number = core.number; moment = moment_after H core.moment; command = core.command }))).added ≡ []
    step (Some placed) is = refl
    step None is = cc is

pub unused-yet : (H : History) (core : EntryCore) → is_some (entry_of_number H core.caller.name core.number) ≡ false
    → entry_of_number H core.caller.name core.number ≡ None
unused-yet H core is = none_is (entry_of_number H core.caller.name core.number) is

-- the place that is kept tells whether a number was used
pub used-there : (H : History) (name : Text) (number : ℕ)
    → is_some (place_of_number name number (numbers_of H)) ≡ is_some (entry_of_number H name (Some number))
used-there H name number = step (place_of_number name number (numbers_of H)) refl
  where
    step : (place : Option ℕ) → place_of_number name number (numbers_of H) ≡ place → is_some place ≡ is_some (entry_of_number H name (Some number))
    step None is = sym (ap is_some (unused-there H name number is))
    step (Some place) is = (let at = used-at H name number place is in sym (ap is_some at.found))

-- a full history
pub full-again : (H : History) (core : EntryCore) → entry_of_number H core.caller.name core.number ≡ None → length H ≡ MAX_ENTRIES → AddsNone H core
full-again H core unused full = none-added H core (full-told H core.caller core.number core.command core.moment unused full).0

-- an entry that is later than its core
pub later-again : (H : History) (core : EntryCore) → entry_of_number H core.caller.name core.number ≡ None
    → length H < MAX_ENTRIES → moment_after H core.moment ≢ core.moment → AddsNone H core
later-again H core unused few differs e is same = step (command_outcome H core.caller (moment_after H core.moment) core.command) refl
  where
    step : (ruling : Outcome) → command_outcome H core.caller (moment_after H core.moment) core.command ≡ ruling → ⊥
    step (Err why) refused =
        let told = first-refused H H core.caller core.caller core.number core.command core.moment
        (moment_after H core.moment) unused few refl refl refl why refused in
        let wrong : [] ≡ e ∷ [] = sym told.0 ∙ is in absurd (cc wrong)
    step (Ok told) accepted =
        let made : Entry =
        record { core = record { caller = core.caller; number = core.number; moment = moment_after H core.moment; command = core.command }; reply = told } in
        let added = first-accepted H H core.caller core.caller core.number core.command core.moment
        (moment_after H core.moment) unused few refl refl refl made refl accepted in
        let one : made ≡ e = cc (added, is) in differs (ap (λ (e : Entry). e.core.moment) one ∙ same)

-- whether an entry may come next, by its moment
pub next-by : (H : History) (core : EntryCore) (now : ℕ) → entry_of_number H core.caller.name core.number ≡ None
    → length H < MAX_ENTRIES → now ≡ moment_after H core.moment → IsNext H core (now == core.moment)
next-by H core now unused few now_is = step (now == core.moment) refl
  where
    step : (t : Bool) → (now == core.moment) ≡ t → IsNext H core t
    step true is = record { unused = unused; entries_fit = few; latest = sym now_is ∙ eqb-true now core.moment is }
    step false is = later-again H core unused few (λ same. let here : (now == core.moment) ≡ true = eq-eqb now core.moment (now_is ∙ same) in cc (here, is))
