-- The records of a server's links, and what they tell over the one list of entries that is seen at the end.
use Rattle.std.specs.Prelude.{◌≡◌, ◌≢◌, ℕ, ◌+◌, List, [], ◌∷◌, ◌++◌, IfSome, Option, map}
use Rattle.std.specs.List.{flat_map}
use Rattle.hall.specs.Places.{Apart}
use Rattle.routes.specs.declared.keys.KeyRow.{KeyRow}
use Rattle.rulebook.specs.Campaign.{History}
use Rattle.campaign_server.specs.declared.ends.End.{End}
use Rattle.campaign_server.specs.declared.ends.End.TheVariants as end
use Rattle.campaign_server.specs.Connections.{ConnectionEnds}
use Rattle.campaign_server.specs.Doors.{EndedLink, HandsOver, IsNew, Told}
use Rattle.campaign_server.specs.HallConnections.{IsTalkAmong}
use Rattle.campaign_server.specs.Links.{Alike, LinkState}

-- A record of a link is that of a connection of a new link, which told what the link tells at its end, from so many entries and failed disk
-- calls on, over the entries S, where it added the entries at these places.
pub record IsLinkRecord (keys : List KeyRow) (n c : ℕ) (S : History) (last : ℕ) (ended : EndedLink) (told : ℕ) (places : List ℕ) : Type 0 where
  pub was : LinkState
  pub is : LinkState
  pub new : IsNew was
  pub alike : Alike was is
  pub tells : IfSome ended.0 (λ state. state ≡ is)
  pub ends : ConnectionEnds (IsTalkAmong keys n c was.clock S last is.clock places told) was is ended.1

-- Each record is one, so many disk faults are told in all of them, and the entries at these places were added: each in one of them alone.
abbrev pub AreServed : List KeyRow → ℕ → ℕ → History → ℕ → List EndedLink → ℕ → List ℕ → Type 0
AreServed keys n c S last [] told places = (told ≡ 0) × (places ≡ [])
AreServed keys n c S last (first ∷ others) told places =
    (here : ℕ) × (there : ℕ) × (own : List ℕ) × (rest : List ℕ) × IsLinkRecord keys n c S last first here own × AreServed keys n c S last others there rest
    × (told ≡ here + there) × (places ≡ own ++ rest) × Apart own rest

-- no connection ended for want of memory
abbrev pub NoneShort : List EndedLink → Type 0
NoneShort [] = Unit {0}
NoneShort (ended ∷ others) = (ended.1 ≢ end.Memory) × NoneShort others

-- what the records of a list tell of their links
abbrev pub ended_of : {R : Type 0} → (R → Option LinkState) → List (R × End) → List EndedLink
ended_of kept records = map (λ r. (kept r.0, r.1)) records

-- and those of several lists, one list's after another's
abbrev pub ended_all : {R A : Type 0} → (A → List (R × End)) → (R → Option LinkState) → List A → List EndedLink
ended_all items kept lists = flat_map (λ records. ended_of kept (items records)) lists

-- the door was handed the first of these records
abbrev pub HandsPart : Option Told → List EndedLink → Option Told → Type 0
HandsPart old records new = (part : List EndedLink) × (rest : List EndedLink) × (records ≡ part ++ rest) × HandsOver old part new
