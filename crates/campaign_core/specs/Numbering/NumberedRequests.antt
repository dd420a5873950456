-- The numbers that callers gave their accepted commands.
use Rattle.std.specs.Prelude.{◌≡◌, ℕ, ◌&&◌, ◌==◌, ◌++◌, Bool, List, [], ◌∷◌, OnOk, Option, Result, find}
use Rattle.std.specs.List.{enumerate_from, flat_map}
use Rattle.std.specs.Option.{option_map, option_map_or}
use Rattle.std.specs.Str.{bytes_eq}
use Rattle.rulebook.specs.declared.ask.Command.{Command}
use Rattle.rulebook.specs.declared.entry.EntryCore.{EntryCore}
use Rattle.rulebook.specs.declared.reply.Reply.{Reply}
use Rattle.rulebook.specs.Answers.{repeat_answer}
use Rattle.rulebook.specs.Requests.Numbers.{entry_of_number}
use Rattle.rulebook.specs.Words.{Text}
use Rattle.rulebook.specs.Campaign.{History}
use Rattle.campaign_core.specs.Growth.{BeginsWith}

-- a number of a caller, and the place of the entry that has it, from 1
pub record NumberedRequest : Type 0 where
  pub caller : Text
  pub number : ℕ
  pub place : ℕ

abbrev pub numbered_at : ℕ → Text → ℕ → NumberedRequest
numbered_at place caller number = record { caller = caller; number = number; place = place }

-- the number of an entry at a place, if it has one
abbrev pub number_in : ℕ → EntryCore → List NumberedRequest
number_in place core = option_map_or (λ number. numbered_at place core.caller.name number ∷ []) core.number []

-- the number of an entry is added behind the others, or there was no memory for it; the others stay
pub record AddsNumber {T E : Type 0} (place : ℕ) (core : EntryCore) (old new : List NumberedRequest) (result : Result T E) : Type 0 where
  pub ok : OnOk result (new ≡ old ++ number_in place core)
  pub grown : BeginsWith old new

-- the numbers of a history, in the order of its entries
abbrev pub numbers_of : History → List NumberedRequest
numbers_of H = flat_map (λ placed. number_in placed.0 placed.1.core) (enumerate_from 1 H)

abbrev pub is_number_of : Text → ℕ → NumberedRequest → Bool
is_number_of caller number one = bytes_eq one.caller caller && (one.number == number)

-- the place of the entry for which a caller used a number
abbrev pub place_of_number : Text → ℕ → List NumberedRequest → Option ℕ
place_of_number caller number all = option_map (λ one. one.place) (find (is_number_of caller number) all)

-- the reply to a command whose caller used its number before
abbrev pub repeated_reply : History → Text → Option ℕ → Command → Option Reply
repeated_reply H caller number command = option_map (λ placed. (repeat_answer command placed).reply) (entry_of_number H caller number)
