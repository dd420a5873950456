-- What the acceptor of a server keeps true of its door, while workers take links through it.
use Rattle.std.specs.Prelude.{◌≡◌, ◌⊎◌, ℕ, ◌≤◌, Bool, true, [], Some, IfSome}
use Rattle.decimal_rank.specs.Causes.{Rose}
use Rattle.campaign_server.specs.declared.ends.ServeEnd.{ServeEnd}
use Rattle.campaign_server.specs.declared.ends.ServeEnd.TheVariants as ends
use Rattle.campaign_server.specs.Doors.{DoorState}

-- the door, how many links it gave, and whether it ended or failed
pub record AcceptorState : Type 0 where
  pub door : DoorState
  pub accepted : ℕ
  pub ended : Bool
  pub failed : Bool

-- The door is open on the port since its calls failed so often, gave no more links than the limit, and was handed no record. Once it gave
-- None no link is left, and once a call failed its count rose.
pub record IsAcceptor (port opening limit : ℕ) (acceptor : AcceptorState) : Type 0 where
  pub open_on : IfSome acceptor.door.told (λ told. told.port ≡ Some port)
  pub counted : IfSome acceptor.door.told (λ told. told.accepted ≡ acceptor.accepted)
  pub none_served : IfSome acceptor.door.told (λ told. told.served ≡ [])
  pub none_left : acceptor.ended ≡ true → IfSome acceptor.door.told (λ told. told.left ≡ [])
  pub few : acceptor.accepted ≤ limit
  pub later : opening ≤ acceptor.door.faults
  pub fault : acceptor.failed ≡ true → Rose opening acceptor.door.faults

-- The acceptor was closed with this end, and its door gave so many links.
pub record Closes (port opening limit : ℕ) (door : DoorState) (accepted : ℕ) (end : ServeEnd) : Type 0 where
  pub open_on : IfSome door.told (λ told. told.port ≡ Some port)
  pub counted : IfSome door.told (λ told. told.accepted ≡ accepted)
  pub none_served : IfSome door.told (λ told. told.served ≡ [])
  pub few : accepted ≤ limit
  pub later : opening ≤ door.faults
  pub ended : end ≡ ends.Ended → IfSome door.told (λ told. told.left ≡ []) ⊎ (accepted ≡ limit)
  pub fault : end ≡ ends.DoorFault → Rose opening door.faults
