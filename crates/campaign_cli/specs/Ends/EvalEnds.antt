-- How `eval` ends.
use Rattle.std.specs.Prelude.{◌≡◌, ◌⊎◌, ℕ, List, Some, true}
use Rattle.eval.specs.Evaluations.{IsReport, IsInputFault}
use Rattle.campaign_cli.specs.declared.endings.Cause.TheVariants.{Done, Input, File, Memory}
use Rattle.campaign_cli.specs.Causes.{Ending, IsWay, says, silent}
use Rattle.campaign_cli.specs.Kinds.{Kind, needs_nothing}
use Rattle.campaign_cli.specs.Surroundings.Outside.{MissesFile}
use Rattle.campaign_cli.specs.Surroundings.Shelves.{Files, GivesFile, KeepsFiles, ShelfState, file_at}

-- the shelf tells both files, and their bytes have this property
abbrev pub TellsBoth : ShelfState → List ℕ → List ℕ → (List ℕ → List ℕ → Type 0) → Type 0
TellsBoth shelf run qrels P =
    (files : Files) × (r : List ℕ) × (q : List ℕ) × (shelf.files ≡ Some files) × (file_at files run ≡ Some r)
    × (file_at files qrels ≡ Some q) × P r q

module _ (run qrels : List ℕ) where
  -- the ways in which `eval` ends
  pub data EvalWay (shelf later : ShelfState) : Type 0 where
    -- both files are within their grammars: the scores are printed
    scored : (r q text : List ℕ) → GivesFile shelf run r → GivesFile shelf qrels q → IsReport run r q text → EvalWay shelf later
    -- the run, or else the qrels, is outside its grammar: the line that names the file and its fault is printed
    refused : (r q line : List ℕ) → GivesFile shelf run r → GivesFile shelf qrels q → IsInputFault run qrels r q line → EvalWay shelf later
    -- one of the two wasn't read
    unread : MissesFile shelf later run ⊎ MissesFile shelf later qrels → EvalWay shelf later
    -- there was no memory
    short : EvalWay shelf later

  abbrev pub cause_of : {shelf later : ShelfState} → EvalWay shelf later → Ending
  cause_of (scored r q text first second report) = says Done text
  cause_of (refused r q line first second fault) = says Input line
  cause_of (unread missed) = silent File
  cause_of short = silent Memory

  abbrev pub EvalEnds : ShelfState → ShelfState → Ending → Type 0
  EvalEnds shelf later ending = IsWay (EvalWay shelf later) cause_of ending × KeepsFiles shelf later

  abbrev pub eval_kind : {D : Type 0} → Kind D
  eval_kind = record {
    Way = λ old new. EvalWay old.shelf new.shelf;
    cause_of = λ old new. cause_of;
    needs = record needs_nothing { files = true };
    can_do = λ old. TellsBoth old.shelf run qrels (λ r q. (text : List ℕ) × IsReport run r q text);
    has_to_refuse = λ old. TellsBoth old.shelf run qrels (λ r q. (text : List ℕ) × IsInputFault run qrels r q text);
  }
