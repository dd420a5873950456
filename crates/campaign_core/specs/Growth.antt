-- Lists that only grow at their end, and what an entry adds.
use Rattle.std.specs.Prelude.{◌≡◌, ◌+◌, ◌≤◌, ℕ, List, [], take, length}
use Rattle.std.specs.Option.{option_map_or}
use Rattle.trec_formats.specs.declared.TopicList.{TopicList}
use Rattle.rulebook.specs.declared.ask.Command.{Command}
use Rattle.rulebook.specs.Campaign.{run_in}
use Rattle.rulebook.specs.Words.{Text}

abbrev pub BeginsWith : {X : Type 0} → List X → List X → Type 0
BeginsWith earlier later = take (length earlier) later ≡ earlier

-- texts that grew at their end, by so many at most
pub record GrowsWithin (most : ℕ) (earlier later : List Text) : Type 0 where
  pub grown : BeginsWith earlier later
  pub bound : length later ≤ length earlier + most

-- the lists that a command submits
abbrev pub lists_in : Command → List TopicList
lists_in command = option_map_or (λ run. run.lists) (run_in command) []
