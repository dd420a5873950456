-- What there is to know of a command besides its words: its ways of ending with their causes, what it needs, and when it can do its work.
use Rattle.std.specs.Prelude.{◌≡◌, ◌≤◌, ℕ, Bool, true, false}
use Rattle.release_archive.specs.Keepers.{KeeperState}
use Rattle.campaign_cli.specs.declared.endings.Cause.TheVariants.{Memory}
use Rattle.campaign_cli.specs.Causes.{Ending, TellsEnding, status_number}
use Rattle.campaign_cli.specs.Surroundings.Outside.{Outside}
use Rattle.campaign_cli.specs.Surroundings.Shelves.{KeepsFiles, ShelfState}

-- what a command uses beside the output: files, the own link, the links of a door, the archive of releases, which it may ask or add one to, and the disk
pub record Needs : Type 0 where
  pub files : Bool
  pub own : Bool
  pub door : Bool
  pub archive : Bool
  pub adding : Bool
  pub book : Bool

abbrev pub needs_nothing : Needs
needs_nothing = record { files = false; own = false; door = false; archive = false; adding = false; book = false }

-- a command that keeps a campaign uses the file of its settings and the disk
abbrev pub a_book : Needs
a_book = record needs_nothing { files = true; book = true }

-- what isn't needed is as it was
abbrev pub StaysUnlessNeeded : {T : Type 0} → Bool → T → T → Type 0
StaysUnlessNeeded true old new = Unit {0}
StaysUnlessNeeded false old new = new ≡ old

-- the files stay, and no count of the shelf falls
abbrev pub LeavesFiles : Bool → ShelfState → ShelfState → Type 0
LeavesFiles true old new = KeepsFiles old new
LeavesFiles false old new = new ≡ old

-- who asks the archive, and doesn't add to it, leaves its releases; no count of its keeper falls
abbrev pub LeavesArchive : Bool → Bool → KeeperState → KeeperState → Type 0
LeavesArchive true true old new = old.faults ≤ new.faults
LeavesArchive true false old new = (old.faults ≤ new.faults) × (new.held ≡ old.held)
LeavesArchive false adding old new = new ≡ old

pub record Leaves {D : Type 0} (needs : Needs) (old new : Outside D) : Type 0 where
  pub files : LeavesFiles needs.files old.shelf new.shelf
  pub own : StaysUnlessNeeded needs.own old.own new.own
  pub door : StaysUnlessNeeded needs.door old.door new.door
  pub archive : LeavesArchive needs.archive needs.adding old.keeper new.keeper
  pub disk : StaysUnlessNeeded needs.book old.disk new.disk

pub record Kind (D : Type 0) : Type 1 where
  -- the ways in which it ends; the outside was as the first, and is as the second
  pub Way : Outside D → Outside D → Type 0
  -- the cause of each, and the text that is printed for it
  pub cause_of : (old new : Outside D) → Way old new → Ending
  pub needs : Needs
  -- its files are told, and within their grammars, and so is the disk: it can do its work
  pub can_do : Outside D → Type 0
  -- its files are told, and one is outside its grammar: it has to refuse that
  pub has_to_refuse : Outside D → Type 0

module _ {D : Type 0} (kind : Kind D) (old new : Outside D) where
  -- A command ended in one of its ways, and left what it doesn't need.
  pub record CommandEnded (ending : Ending) : Type 0 where
    pub way : kind.Way old new
    pub told : ending ≡ kind.cause_of old new way
    pub leaves : Leaves kind.needs old new

  -- how the program ends
  pub data Finishes (status : ℕ) : Type 0 where
    -- there was no memory to read the words: all is as it was
    unread : new ≡ old → status ≡ status_number Memory → Finishes status
    -- the command ended, and what that has to tell is printed
    ended : (ending : Ending) → CommandEnded ending → TellsEnding ending old.out new.out status → Finishes status
