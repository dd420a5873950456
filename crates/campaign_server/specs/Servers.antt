-- What a server comes to: what it leaves of its campaign and of its door.
use Rattle.std.specs.Prelude.{◌≡◌, ◌≢◌, ◌⊎◌, ℕ, Bool, ◌-◌, ◌*◌, ◌^◌, ◌≤◌, false, List, [], None, Option, Some, IfSome, length}
use Rattle.decimal_rank.specs.Causes.{Rose}
use Rattle.disk_model.specs.Disks.{DiskState}
use Rattle.routes.specs.declared.keys.KeyRow.{KeyRow}
use Rattle.rulebook.specs.Histories.Stories.{IsPartOf, Story}
use Rattle.book.specs.Books.{BookView, story_of}
use Rattle.campaign_server.specs.declared.ends.ServeEnd.{ServeEnd}
use Rattle.campaign_server.specs.declared.ends.ServeEnd.TheVariants as serve_end
use Rattle.campaign_server.specs.declared.numbers.ServerNumbers.{ServerNumbers}
use Rattle.campaign_server.specs.Doors.{DoorState, EndedLink, HandsOver, Told}
use Rattle.campaign_server.specs.Crews.Records.{AreServed, HandsPart, NoneShort}

-- The door was opened on the port, unless a call of it failed or memory was short. It gave at most as many links as connections are taken, and each has its
-- record, whose answers stand in the campaign's entries at the end; where memory was short there may be fewer. No record ended for want of
-- memory then. No entry was added for two records. The disk faults that all records tell are at most so many for each worker as the count rose by.
pub record ServerLeaves (keys : List KeyRow) (numbers : ServerNumbers) (start after : Story) (how : ServeEnd) (told : Told) : Type 0 where
  pub opened : (told.port ≡ Some numbers.port) ⊎ ((told.port ≡ None) × (how ≢ serve_end.Ended))
  pub few : told.accepted ≤ numbers.connections
  pub none_made_up : length told.served ≤ told.accepted
  pub all : how ≢ serve_end.Memory → length told.served ≡ told.accepted
  pub none_short : how ≢ serve_end.Memory → NoneShort told.served
  pub faults : ℕ
  pub places : List ℕ
  pub served : AreServed keys (length start.list) start.faults after.list after.faults told.served faults places
  pub licensed : (faults ≤ numbers.workers * (after.faults - start.faults)) ⊎ (2 ^ 64 - 1 ≤ after.faults)
  pub ended : how ≡ serve_end.Ended → (told.left ≡ []) ⊎ (told.accepted ≡ numbers.connections)

-- What a server comes to, from a campaign and a door: the entries only grow, what the door tells is left so, and a fault of the door is told only
-- where one is counted.
pub record IsServed (keys : List KeyRow) (numbers : ServerNumbers) (start after : Story) (old new : DoorState) (how : ServeEnd) : Type 0 where
  pub grown : IsPartOf start after
  pub leaves : IfSome new.told (λ told. ServerLeaves keys numbers start after how told)
  pub fault : how ≡ serve_end.DoorFault → Rose old.faults new.faults
  pub later : old.faults ≤ new.faults

-- the same of a campaign on a disk
abbrev pub ServesBook : {D : Type 0} → (D → DiskState) → List KeyRow → ServerNumbers → BookView D → BookView D → DoorState → DoorState → ServeEnd → Type 0
ServesBook seen keys numbers start after old new how = IsServed keys numbers (story_of seen start) (story_of seen after) old new how

-- The door was handed all of these records, and the server ends so; or memory was short, and it was handed the first of them.
abbrev pub SettlesRecords : Option Told → List EndedLink → Bool → ServeEnd → Option Told → ServeEnd → Type 0
SettlesRecords old records short how new end = ((short ≡ false) × (end ≡ how) × HandsOver old records new)
    ⊎ ((end ≡ serve_end.Memory) × HandsPart old records new)
