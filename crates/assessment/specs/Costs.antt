-- How many steps a change may take: nodes of trees and entries of rankings on the board, and looks into pools.
use Rattle.std.specs.Prelude.{◌≡◌, ℕ, ◌+◌, List, Some, Contains, length, slice_get, sum_by}
use Rattle.std.specs.Option.{option_map_or}
use Rattle.decimal_rank.specs.declared.naming.DocId.{DocId}
use Rattle.depth_pool.specs.declared.runs.RunId.{RunId}
use Rattle.score_index.specs.Scores.{list_steps}
use Rattle.assessment.specs.TopicsFacts.{TopicsFacts}
use Rattle.assessment.specs.declared.change.Change.{Change}
use Rattle.assessment.specs.declared.change.Change.TheVariants as change

-- each run that has a list is among these
abbrev pub HaveLists : List RunId → TopicsFacts → Type 0
HaveLists runs all = (run : RunId) (on : ℕ) (docs : List DocId) → all.lists run on ≡ Some docs → Contains runs run

-- how many runs the pool of a topic has
abbrev pub pool_size : ℕ → TopicsFacts → ℕ
pool_size number all = option_map_or (λ topic. length topic.pool) (slice_get all.topics number) 0

-- the grade of a document of a topic: what the lists of these runs on it may take to follow it, one step for each run of the pool, and one more
abbrev pub grade_steps : List RunId → ℕ → TopicsFacts → ℕ
grade_steps runs number all = sum_by (λ run. list_steps (all.lists run number)) runs + pool_size number all + 1

-- a change of an assessment, where these runs have lists
abbrev pub change_steps : List RunId → Change → TopicsFacts → ℕ
change_steps runs change.Nothing all = 0
change_steps runs (change.Topics given) all = 0
change_steps runs (change.Run run lists) all = 0
change_steps runs (change.Withdraw run) all = 0
change_steps runs (change.Lease grant) all = 0
change_steps runs (change.Grade number label) all = grade_steps runs label.topic all
change_steps runs (change.Release number) all = 0
change_steps runs (change.Amend label) all = grade_steps runs label.topic all
change_steps runs (change.Rule ruling) all = grade_steps runs ruling.topic all
