-- What the workers of a server did.
use Rattle.std.specs.Prelude.{◌≡◌, ◌⊎◌, ℕ, suc, ◌+◌, ◌-◌, ◌*◌, ◌^◌, ◌≤◌, Bool, false, ◌||◌, List, [], ◌++◌, length}
use Rattle.std.specs.List.{Contains}
use Rattle.atomic_table.specs.Seated.{TableId}
use Rattle.hall.specs.Acts.{Known}
use Rattle.hall.specs.Places.{Apart, places_merged}
use Rattle.hall.specs.Stories.{AtMost as MostOf}
use Rattle.routes.specs.declared.keys.KeyRow.{KeyRow}
use Rattle.rulebook.specs.declared.entry.Entry.{Entry}
use Rattle.rulebook.specs.Histories.Stories.{IsPartOf, Story}
use Rattle.book.specs.Halls.{seen_as}
use Rattle.campaign_server.specs.Doors.{EndedLink}
use Rattle.campaign_server.specs.Crews.Records.{AreServed, NoneShort}

-- these places, from 0, are among those of a pass, which count from 1
abbrev pub AreOwn : List ℕ → List ℕ → Type 0
AreOwn mine places = (place : ℕ) → Contains places place → Contains mine (suc place)

-- what contracts see of a worker: its pass, its parts of the ledger, what the records of its links tell, and whether memory was short for it
pub record WorkState : Type 0 where
  pub pass : Known Entry
  pub parts : ℕ
  pub records : List EndedLink
  pub short : Bool

-- What so many workers did since the start: the records of their links, over what their pass has seen, and the places of what they added, which are
-- its own. One is short where memory was.
pub record Works (keys : List KeyRow) (start : Story) (workers : ℕ) (work : WorkState) : Type 0 where
  pub grown : IsPartOf start (seen_as work.pass.seen)
  pub told : ℕ
  pub places : List ℕ
  pub served : AreServed keys (length start.list) start.faults work.pass.seen.list work.pass.seen.faults work.records told places
  pub own : AreOwn work.pass.mine places
  pub licensed : (told ≤ workers * (work.pass.seen.faults - start.faults)) ⊎ (2 ^ 64 - 1 ≤ work.pass.seen.faults)
  pub none_short : work.short ≡ false → NoneShort work.records

-- a worker that did nothing yet: its pass is of the hall and has seen the start, and it has one part of the ledger
pub record IsFreshWorker (hall : TableId) (start : Story) (work : WorkState) : Type 0 where
  pub of : work.pass.hall ≡ hall
  pub seen : seen_as work.pass.seen ≡ start
  pub part : work.parts ≡ 1
  pub no_records : work.records ≡ []
  pub not_short : work.short ≡ false

-- nothing was gathered yet: a pass of the hall, and no part of the ledger
pub record HasGatheredNothing (hall : TableId) (work : WorkState) : Type 0 where
  pub of : work.pass.hall ≡ hall
  pub none : work.parts ≡ 0
  pub no_records : work.records ≡ []
  pub not_short : work.short ≡ false

-- a worker went on: whatever it did since a start, it did more
pub record WorkerGoesOn (keys : List KeyRow) (work later : WorkState) : Type 0 where
  pub of : later.pass.hall ≡ work.pass.hall
  pub part : later.parts ≡ work.parts
  pub on : (start : Story) → Works keys start 1 work → Works keys start 1 later

-- a worker that served: it has its pass and its part still
pub record HasServed (keys : List KeyRow) (hall : TableId) (start : Story) (work : WorkState) : Type 0 where
  pub of : work.pass.hall ≡ hall
  pub part : work.parts ≡ 1
  pub worked : Works keys start 1 work

-- what was gathered of some workers, and the number of others for which there is room
pub record GatheredState : Type 0 where
  pub done : WorkState
  pub room : ℕ

-- what one worker did was gathered with what others did
pub record TakesIn (all : GatheredState) (work : WorkState) (later : GatheredState) : Type 0 where
  pub of : later.done.pass.hall ≡ all.done.pass.hall
  pub grown : MostOf all.done.pass.seen later.done.pass.seen
  pub other : MostOf work.pass.seen later.done.pass.seen
  pub apart : Apart all.done.pass.mine work.pass.mine
  pub mine : later.done.pass.mine ≡ places_merged all.done.pass.mine work.pass.mine
  pub parts : later.done.parts ≡ all.done.parts + work.parts
  pub records : later.done.records ≡ all.done.records ++ work.records
  pub short : later.done.short ≡ (all.done.short || work.short)
  pub room : suc later.room ≡ all.room
