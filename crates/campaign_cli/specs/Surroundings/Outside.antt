-- What the program sees of the outside.
use Rattle.std.specs.Prelude.{◌≡◌, ◌⊎◌, ℕ, List, ◌++◌, codes, decimal}
use Rattle.decimal_rank.specs.Causes.{Rose}
use Rattle.decimal_rank.specs.Outputs.Writings.{Writing}
use Rattle.campaign_server.specs.Doors.{DoorState}
use Rattle.campaign_server.specs.Links.{LinkState}
use Rattle.release_archive.specs.Keepers.{KeeperState}
use Rattle.campaign_cli.specs.declared.surroundings.devices.Devices.{Devices}
use Rattle.campaign_cli.specs.Surroundings.Shelves.{ShelfState, LacksFile}

-- the files, the output, the program's own link, its door, the archive of releases, and the disk that the program keeps a campaign on
pub record Outside (D : Type 0) : Type 0 where
  pub shelf : ShelfState
  pub out : Writing
  pub own : LinkState
  pub door : DoorState
  pub keeper : KeeperState
  pub disk : D

-- the outside by what is told of each
abbrev pub outside_of : {D : Type 0} → ShelfState → Writing → LinkState → DoorState → KeeperState → D → Outside D
outside_of shelf out own door keeper disk = record { shelf = shelf; out = out; own = own; door = door; keeper = keeper; disk = disk }

module _ {F I R K : Type 0} where
  -- the outside of devices, by what each of these tells, with an output and a disk
  abbrev pub outside_behind : {D : Type 0} → (F → ShelfState) → (I → LinkState) → (R → DoorState) → (K → KeeperState)
      → Devices F I R K → Writing → D → Outside D
  outside_behind shelf own door keeper devices out disk =
      outside_of (shelf devices.shelf.now) out (own devices.own.now) (door devices.door.now) (keeper devices.keeper.now) disk

  -- they are the same devices as before
  abbrev pub AreSame : Devices F I R K → Devices F I R K → Type 0
  AreSame old new = (new.shelf.ghost_name ≡ old.shelf.ghost_name) × (new.own.ghost_name ≡ old.own.ghost_name)
      × (new.door.ghost_name ≡ old.door.ghost_name) × (new.keeper.ghost_name ≡ old.keeper.ghost_name)

-- the shelf failed, or it missed the file and may have none of this name
abbrev pub MissesFile : ShelfState → ShelfState → List ℕ → Type 0
MissesFile old new name = Rose old.faults new.faults ⊎ (Rose old.misses new.misses × LacksFile old name)

-- a line with a number behind a word
abbrev pub word_line : List ℕ → ℕ → List ℕ
word_line word count = word ++ decimal count ++ codes "\n"

-- a line with a name behind a word
abbrev pub name_line : List ℕ → List ℕ → List ℕ
name_line word name = word ++ name ++ codes "\n"
