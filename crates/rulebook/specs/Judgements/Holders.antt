-- The live runs that hold a document.
use Rattle.std.specs.Prelude.{◌≡◌, ◌<◌, ◌↔◌, ℕ, true, false, List, Some, filter, slice_get}
use Rattle.rulebook.specs.Campaign.{History, Run, is_withdrawn, numbered_runs, run_holds, runs}
use Rattle.rulebook.specs.Words.{Text}

-- the live runs that hold a document of a topic, each with its number of submission, ascending
abbrev pub holders : History → Text → Text → List (ℕ × Run)
holders H topic doc = filter (λ run. run_holds H topic run.1 doc) (numbered_runs H)

-- a run of this number was submitted, wasn't withdrawn, and holds the document
pub record IsHolder (H : History) (topic doc : Text) (run : ℕ × Run) : Type 0 where
  pub submitted : slice_get (runs H) run.0 ≡ Some run.1
  pub stays : is_withdrawn H run.1.name ≡ false
  pub holds_it : run_holds H topic run.1 doc ≡ true

-- these are the holders, by their numbers
pub record AreHolders (H : History) (topic doc : Text) (found : List (ℕ × Run)) : Type 0 where
  pub are : (run : ℕ × Run) → ((place : ℕ) × (slice_get found place ≡ Some run)) ↔ IsHolder H topic doc run
  pub ascend : (place later : ℕ) (run next : ℕ × Run) → place < later → slice_get found place ≡ Some run → slice_get found later ≡ Some next → run.0 < next.0

-- The holders of a document are the live runs that hold it, by their numbers.
abbrev pub HoldersHold : Type 0
HoldersHold = (H : History) (topic doc : Text) → AreHolders H topic doc (holders H topic doc)
