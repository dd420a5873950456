-- What a journal of the accepted entries rests on: what an answer adds may be read back, and all of it has room.
use Rattle.std.specs.Prelude.{◌≡◌, ℕ, ◌+◌, ◌≤◌, ◌^◌, [], ◌∷◌, ◌++◌, Option, IsTrue, length, sum_by}
use Rattle.std.specs.List.{All}
use Rattle.rulebook.specs.Requests.Limits.{max_entries, max_entry_bytes, max_moment, max_runs}
use Rattle.rulebook.specs.declared.rules.Caller.{Caller}
use Rattle.rulebook.specs.declared.rules.Rules.{Rules}
use Rattle.rulebook.specs.declared.ask.Ask.{Ask}
use Rattle.rulebook.specs.declared.ask.Ask.TheVariants.{Act}
use Rattle.rulebook.specs.declared.ask.Command.{Command}
use Rattle.rulebook.specs.declared.entry.Entry.{Entry}
use Rattle.rulebook.specs.Answers.{answer, moment_after}
use Rattle.rulebook.specs.Campaign.{History, runs}
use Rattle.rulebook.specs.Histories.Legal.{IsAccepted, IsLegal, core_of, founding, is_well_addressed}
use Rattle.rulebook.specs.Spelling.{are_rules, entry_bytes, has_spelling}

-- The entry that a request adds is accepted by its own core alone, keeps the list legal, and has the answer's reply.
pub record IsAdded (H : History) (who : Caller) (number : Option ℕ) (ask : Ask) (moment : ℕ) (e : Entry) : Type 0 where
  pub accepted : IsAccepted H e
  pub legal : IsLegal (H ++ e ∷ [])
  pub reply : (answer H who number ask moment).reply ≡ e.reply
  pub core : (c : Command) → ask ≡ Act c → e.core ≡ core_of who number e.core.moment c

abbrev pub AddedAreAccepted : Type 0
AddedAreAccepted =
    (H : History) (who : Caller) (number : Option ℕ) (ask : Ask) (moment : ℕ) (e : Entry) → IsLegal H
    → IsTrue (is_well_addressed who number ask moment) → (answer H who number ask moment).added ≡ e ∷ [] → IsAdded H who number ask moment e

abbrev pub EntriesAreFew : Type 0
EntriesAreFew = (H : History) → IsLegal H → length H ≤ max_entries

abbrev pub RunsAreFew : Type 0
RunsAreFew = (H : History) → IsLegal H → length (runs H) ≤ max_runs

abbrev pub MomentsAreInTime : Type 0
MomentsAreInTime = (H : History) → IsLegal H → moment_after H 0 ≤ max_moment

-- the first entry has room in a record
abbrev pub FoundingFits : Type 0
FoundingFits = (rules : Rules) → IsTrue (are_rules rules) → length (entry_bytes (founding rules).core) ≤ max_entry_bytes

-- A journal's head and the records of a legal list, each of five bytes and its entry's, have room in 2^39 bytes.
abbrev pub LegalFit : Type 0
LegalFit = (H : History) → IsLegal H → 17 + sum_by (λ e. length (entry_bytes e.core) + 5) H ≤ 2 ^ 39

-- no moment of these entries is less than the one before it
abbrev pub Rise : ℕ → History → Type 0
Rise earlier [] = Unit {0}
Rise earlier (e ∷ later) = (earlier ≤ e.core.moment) × Rise e.core.moment later

abbrev pub MomentsRise : Type 0
MomentsRise = (H : History) → IsLegal H → Rise 0 H

-- an entry that has a spelling, with room in a record
pub record IsSpelled (e : Entry) : Type 0 where
  pub spelled : IsTrue (has_spelling e.core)
  pub fits : length (entry_bytes e.core) ≤ max_entry_bytes

abbrev pub EntriesAreSpelled : Type 0
EntriesAreSpelled = (H : History) → IsLegal H → All IsSpelled H
