-- Files that are told: what is given of them, and that they aren't missed where no call failed.
use Rattle.std.proofs.Common.{◌≡◌, ◌⊎◌, inl, inr, ℕ, List, Some, None, subst, ◌∙◌, arith}
use Rattle.std.specs.Prelude.{IfSome}
use Rattle.decimal_rank.specs.Causes.{Rose}
use Rattle.campaign_cli.specs.Ends.BookEnds.{TellsSettings, settings_file}
use Rattle.campaign_cli.specs.Ends.EvalEnds.{TellsBoth}
use Rattle.campaign_cli.specs.Surroundings.Outside.{MissesFile}
use Rattle.campaign_cli.specs.Surroundings.Shelves.{Files, GivesFile, KeepsFiles, ShelfState, file_at}

-- what follows on what
pub follows_on : (a b c : ShelfState) → KeepsFiles a b → KeepsFiles b c → KeepsFiles a c
follows_on a b c w v = record {
  files = v.files ∙ w.files;
  faults = omega (arith, w.faults, v.faults);
  misses = omega (arith, w.misses, v.misses);
}

-- what is given later was there before
pub given_before : (a b : ShelfState) (name bytes : List ℕ) → KeepsFiles a b → GivesFile b name bytes → GivesFile a name bytes
given_before a b name bytes w gives =
    record { few = gives.few; same = subst (λ files. IfSome files (λ files. file_at files name ≡ Some bytes)) w.files gives.same }

-- what was given of a file that is told is the file
pub given : (shelf : ShelfState) (name bytes there : List ℕ) (files : Files) → shelf.files ≡ Some files
    → file_at files name ≡ Some there → GivesFile shelf name bytes → there ≡ bytes
given shelf name bytes there files tells at gives =
    let same : file_at files name ≡ Some bytes = rw tells at gives.same in
    cc (at, same)

-- what holds of two files that are told holds of the bytes that are given
pub told_both : (shelf : ShelfState) (run qrels r q : List ℕ) (P : List ℕ → List ℕ → Type 0) → TellsBoth shelf run qrels P
    → GivesFile shelf run r → GivesFile shelf qrels q → P r q
told_both shelf run qrels r q P w first second =
    subst (λ r. P r q) (given shelf run r w.1 w.0 w.3 w.4 first) (subst (P w.1) (given shelf qrels q w.2 w.0 w.3 w.5 second) w.6)

pub told_settings : (shelf : ShelfState) (text : List ℕ) (P : List ℕ → Type 0) → TellsSettings shelf P → GivesFile shelf settings_file text → P text
told_settings shelf text P w gives = subst P (given shelf settings_file text w.1 w.0 w.2 w.3 gives) w.4

-- a file that is told isn't missed, where no read failed
pub not_missed : (old new : ShelfState) (name there : List ℕ) (files : Files) → old.files ≡ Some files → file_at files name ≡ Some there
    → ¬ (Rose old.faults new.faults) → MissesFile old new name → ⊥
not_missed old new name there files tells at calm (inl rose) = calm rose
not_missed old new name there files tells at calm (inr missed) =
    let lacks : file_at files name ≡ None = rw tells at missed.1 in
    cc (at, lacks)

pub not_both_missed : (old new : ShelfState) (run qrels : List ℕ) (P : List ℕ → List ℕ → Type 0) → TellsBoth old run qrels P
    → ¬ (Rose old.faults new.faults) → MissesFile old new run ⊎ MissesFile old new qrels → ⊥
not_both_missed old new run qrels P w calm (inl missed) = not_missed old new run w.1 w.0 w.3 w.4 calm missed
not_both_missed old new run qrels P w calm (inr missed) = not_missed old new qrels w.2 w.0 w.3 w.5 calm missed

-- one that is missed is counted
pub missed_rose : (old new : ShelfState) (name : List ℕ) → MissesFile old new name → Rose old.faults new.faults ⊎ Rose old.misses new.misses
missed_rose old new name (inl rose) = inl rose
missed_rose old new name (inr missed) = inr missed.0
