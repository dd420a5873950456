-- What a door tells: the port that it was opened on, the links that are left, how many it gave, and the records that it was handed.
use Rattle.std.specs.Prelude.{◌≡◌, ℕ, ◌+◌, List, [], ◌∷◌, ◌++◌, Option, Some, None, IfSome, IsSome}
use Rattle.campaign_server.specs.declared.ends.End.{End}
use Rattle.campaign_server.specs.Links.{LinkState}

-- what a link told at its end, where it tells that, and how the connection ended
abbrev pub EndedLink : Type 0
EndedLink = Option LinkState × End

pub record Told : Type 0 where
  pub port : Option ℕ
  pub left : List LinkState
  pub accepted : ℕ
  pub served : List EndedLink

-- what it tells, where it does, and how many of its calls failed
pub record DoorState : Type 0 where
  pub told : Option Told
  pub faults : ℕ

-- nothing was taken, written or asked of the link, and no call on it failed
pub record IsNew (link : LinkState) : Type 0 where
  pub taken : IfSome link.reading.taken (λ bytes. bytes ≡ [])
  pub reads : link.reading.faults ≡ 0
  pub written : IfSome link.writing.written (λ bytes. bytes ≡ [])
  pub writes : link.writing.faults ≡ 0
  pub asked : link.clock.asked ≡ 0

-- it wasn't opened; then it gave no link, and was handed no record
abbrev pub IsShut : DoorState → Type 0
IsShut door = IfSome door.told (λ told. (told.port ≡ None) × (told.accepted ≡ 0) × (told.served ≡ []))

abbrev pub IsOpen : DoorState → Type 0
IsOpen door = IfSome door.told (λ told. IsSome told.port)

-- what is told of a door is told on
module _ (P : Told → Told → Type 0) where
  abbrev pub TellsOn : Option Told → Option Told → Type 0
  TellsOn (Some old) (Some new) = P old new
  TellsOn (Some old) None = ⊥
  TellsOn None (Some new) = ⊥
  TellsOn None None = Unit {0}

-- it was opened on the port
abbrev pub Opens : Option Told → ℕ → Option Told → Type 0
Opens old port new = TellsOn (λ was is. is ≡ record was { port = Some port }) old new

-- it gave the first of the links that were left, or none was left
abbrev pub GivesLink : Option LinkState → Told → Told → Type 0
GivesLink (Some link) was is = (was.left ≡ link ∷ is.left) × (is ≡ record was { left = is.left; accepted = was.accepted + 1 })
GivesLink None was is = (was.left ≡ []) × (is ≡ was)

abbrev pub Takes : Option Told → Option LinkState → Option Told → Type 0
Takes old link new = TellsOn (GivesLink link) old new

-- it was handed these records
abbrev pub HandsOver : Option Told → List EndedLink → Option Told → Type 0
HandsOver old records new = TellsOn (λ was is. is ≡ record was { served = was.served ++ records }) old new
