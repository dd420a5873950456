-- How many steps the commit of an entry may take: nodes of trees and entries of ranked lists that are read, and looks into pools.
use Rattle.std.specs.Prelude.{ℕ, ◌+◌, List, [], ◌∷◌, Option, length, sum_by}
use Rattle.std.specs.Option.{option_and_then, option_map, option_map_or, option_or}
use Rattle.score_index.specs.Scores.{follow_steps}
use Rattle.rulebook.specs.declared.ask.Command.{Command}
use Rattle.rulebook.specs.Words.{Text}
use Rattle.rulebook.specs.Campaign.{History, docs_on, live, tells}
use Rattle.rulebook.specs.Judgements.Leases.{lease_numbered}

-- what a ranked list may take to follow a grade, and nothing where it is empty
abbrev pub ranked_steps : List Text → ℕ
ranked_steps [] = 0
ranked_steps (doc ∷ docs) = follow_steps (length (doc ∷ docs))

-- the grade of a document of a topic: what the ranked lists of the live runs on it may take, one step for each live run, and one more
abbrev pub live_grade_steps : History → Text → ℕ
live_grade_steps H topic = sum_by (λ run. ranked_steps (docs_on run.lists topic)) (live H) + length (live H) + 1

-- the topic of the document that a command grades: a lease's, an amendment's or a ruling's
abbrev pub graded_topic : History → Command → Option Text
graded_topic H c =
    option_or (option_map (λ given. given.topic) (option_or (tells c).amendment (tells c).ruling))
    (option_and_then (λ ended. option_and_then (λ grade. option_map (λ lease. lease.topic) (lease_numbered H ended.number)) ended.grade) (tells c).lease_end)

-- an entry with this command, after a history: only a grade takes steps
abbrev pub commit_steps : History → Command → ℕ
commit_steps H c = option_map_or (live_grade_steps H) (graded_topic H c) 0
