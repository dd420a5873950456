-- What shelves tell, and what a call may do to it.
use Rattle.std.specs.Prelude.{◌≡◌, ℕ, ◌≤◌, Bool, ◌&&◌, List, Option, Some, None, Result, Ok, Err, length, find, nat_le, bytes_eq, option_map, IfSome}
use Rattle.std.specs.declared.alloc.Global.{Global}
use Rattle.std.specs.declared.vec.Vec.{Vec}
use Rattle.campaign_cli.specs.declared.surroundings.faults.ShelfFault.{ShelfFault}
use Rattle.campaign_cli.specs.declared.surroundings.faults.ShelfFault.TheVariants.{Absent, Failed, Memory}
use Rattle.decimal_rank.specs.Outputs.FailurePlans.{PlanState, count_more, after_call}

-- the name and the bytes of each file
abbrev pub Files : Type 0
Files = List (List ℕ × List ℕ)

-- the files, where the shelf tells them, and how many reads failed and how many found no file
pub record ShelfState : Type 0 where
  pub files : Option Files
  pub faults : ℕ
  pub misses : ℕ

-- a file of this name that isn't too long to be read
abbrev pub is_readable_as : List ℕ → List ℕ × List ℕ → Bool
is_readable_as name file = bytes_eq file.0 name && nat_le (length file.1) 268435456

-- the bytes of the file of this name; a file that is too long is as none
abbrev pub file_at : Files → List ℕ → Option (List ℕ)
file_at files name = option_map (λ file. file.1) (find (is_readable_as name) files)

-- these may be the bytes that the shelf gives for the name: where it tells, they are the file's
pub record GivesFile (shelf : ShelfState) (name bytes : List ℕ) : Type 0 where
  pub few : length bytes ≤ 268435456
  pub same : IfSome shelf.files (λ files. file_at files name ≡ Some bytes)

-- the shelf may have no such file: where it tells, there is none
abbrev pub LacksFile : ShelfState → List ℕ → Type 0
LacksFile shelf name = IfSome shelf.files (λ files. file_at files name ≡ None)

-- the files stay, and no count falls
pub record KeepsFiles (old new : ShelfState) : Type 0 where
  pub files : new.files ≡ old.files
  pub faults : old.faults ≤ new.faults
  pub misses : old.misses ≤ new.misses

-- a shelf in memory: its files, the reads that are to fail, and its two counts
pub record MemoryShelfState : Type 0 where
  pub files : Files
  pub plan : PlanState
  pub faults : ℕ
  pub misses : ℕ

-- it tells all but its plan
abbrev pub told_by : MemoryShelfState → ShelfState
told_by shelf = record { files = Some shelf.files; faults = shelf.faults; misses = shelf.misses }

-- a shelf in memory after a read with this answer
abbrev pub after_file_read : MemoryShelfState → Result (Vec ℕ Global) ShelfFault → MemoryShelfState
after_file_read shelf (Ok bytes) = record shelf { plan = after_call shelf.plan }
after_file_read shelf (Err Absent) = record shelf { plan = after_call shelf.plan; misses = count_more shelf.misses }
after_file_read shelf (Err Failed) = record shelf { plan = after_call shelf.plan; faults = count_more shelf.faults }
after_file_read shelf (Err Memory) = record shelf { plan = after_call shelf.plan }
