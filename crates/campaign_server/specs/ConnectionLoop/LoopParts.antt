-- How far a connection has come.
use Rattle.std.specs.Prelude.{◌≡◌, ◌⊎◌, ℕ, ◌+◌, ◌^◌, ◌≤◌, Bool, List, [], Result, Ok, Err, length, nat_lt, if◌then◌else◌}
use Rattle.std.specs.Io.KnownBytes.{IsAtEnd}
use Rattle.decimal_rank.specs.Causes.{Rose}
use Rattle.http_wire.specs.Messages.{Closed, Refused}
use Rattle.routes.specs.declared.keys.KeyRow.{KeyRow}
use Rattle.rulebook.specs.declared.answer.Answer.{Answer}
use Rattle.rulebook.specs.declared.ask.Addressed.{Addressed}
use Rattle.campaign_server.specs.declared.connections.ReadFault.{ReadFault}
use Rattle.campaign_server.specs.declared.connections.ReadFault.TheVariants.{Failed, Memory}
use Rattle.campaign_server.specs.declared.ends.End.{End}
use Rattle.campaign_server.specs.declared.ends.End.TheVariants as end
use Rattle.campaign_server.specs.Links.{LinkState}
use Rattle.campaign_server.specs.ConnectionLoop.FedRequests.{StreamState, WasFed, fed_on}
use Rattle.campaign_server.specs.Conversations.Chains.{Chain, Said}
use Rattle.campaign_server.specs.Connections.{Hears, IsLast, ReadsNoMore, Spoke, SpokeAll, SpokeCut, SpokePart, at_pause}

module _ (talks : List Said → Type 0) where
  -- all whole requests of the bytes were answered, and the bytes end so far
  pub record IsAtPause (old : LinkState) (bytes rest : List ℕ) (new : LinkState) (clean : Bool) : Type 0 where
    pub spoke : Spoke talks old bytes rest new
    pub all : SpokeAll talks old bytes new (at_pause clean)

  -- the connection ends within the bytes that were fed
  abbrev pub EndsHere : LinkState → List ℕ → LinkState → End → Type 0
  EndsHere old bytes new end.Ended = SpokeAll talks old bytes new Closed
  EndsHere old bytes new (end.Refused cause) = SpokeAll talks old bytes new (Refused cause)
  EndsHere old bytes new end.WriteFault = SpokePart talks old bytes new ⊎ SpokeCut talks old bytes new
  EndsHere old bytes new end.Memory = (rest : List ℕ) × Spoke talks old bytes rest new
  EndsHere old bytes new end.Cut = ⊥
  EndsHere old bytes new end.ReadFault = ⊥
  EndsHere old bytes new end.Worn = ⊥

  -- so many bytes were read, and all whole requests among them were answered
  pub record IsSoFar (old : LinkState) (rest : List ℕ) (new : LinkState) (taken : ℕ) (clean : Bool) : Type 0 where
    pub bytes : List ℕ
    pub heard : Hears old new bytes
    pub no_more : ReadsNoMore old new bytes
    pub count : length bytes ≡ taken
    pub pause : IsAtPause old bytes rest new clean

module _ {S : Type 0} (tells : S → Addressed → Answer → S → Type 0) (keys : List KeyRow) where
  -- whatever was said up to one point of a connection, more was said up to the other
  abbrev pub Continues : S → LinkState → StreamState → S → LinkState → StreamState → Type 0
  Continues state now stream next then_ after =
      (old : S) (was : LinkState) (bytes rest : List ℕ) → WasFed keys rest stream → Spoke (Chain tells keys old was.clock state now.clock) was bytes rest now
      → (later : List ℕ) × WasFed keys later after × Spoke (Chain tells keys old was.clock next then_.clock) was bytes later then_

  -- and all whole requests are answered there
  abbrev pub Pauses : S → LinkState → StreamState → Bool → S → LinkState → StreamState → Type 0
  Pauses state now stream clean next then_ after =
      (old : S) (was : LinkState) (bytes rest : List ℕ) → WasFed keys rest stream → Spoke (Chain tells keys old was.clock state now.clock) was bytes rest now
      → (later : List ℕ) × WasFed keys later after × IsAtPause (Chain tells keys old was.clock next then_.clock) was bytes later then_ clean

  -- and the connection ends there
  abbrev pub EndsFrom : S → LinkState → StreamState → End → S → LinkState → Type 0
  EndsFrom state now stream e next then_ =
      (old : S) (was : LinkState) (bytes rest : List ℕ) → WasFed keys rest stream → Spoke (Chain tells keys old was.clock state now.clock) was bytes rest now
      → EndsHere (Chain tells keys old was.clock next then_.clock) was bytes then_ e

-- so many bytes were read where so many were taken before: at most what one read takes, and no more than may be taken
pub record IsPiece (taken : ℕ) (piece : List ℕ) (count : ℕ) : Type 0 where
  pub size : length piece ≡ count
  pub few : count ≤ 8192
  pub room : taken + count ≤ 2 ^ 40

-- what a read comes to: a piece behind what was fed, none at the end; or a fault, at which nothing was taken; or a piece for which there was no memory
abbrev pub ReadsPiece : LinkState → LinkState → StreamState → ℕ → Result ℕ ReadFault → StreamState → Type 0
ReadsPiece old new stream taken (Ok count) after =
    (piece : List ℕ) × IsPiece taken piece count × Hears old new piece × IsLast new count
    × (after ≡ fed_on stream piece) × (count ≡ 0 → IsAtEnd new.reading.left)
ReadsPiece old new stream taken (Err Failed) after = Hears old new [] × IsLast new 0 × Rose old.reading.faults new.reading.faults
ReadsPiece old new stream taken (Err Memory) after = (piece : List ℕ) × (length piece ≤ 8192) × Hears old new piece × IsLast new (length piece)

-- the end where as many bytes were taken as may be
abbrev pub worn_end : End → End
worn_end end.Ended = end.Worn
worn_end (end.Refused cause) = end.Worn
worn_end end.Cut = end.Worn
worn_end end.ReadFault = end.ReadFault
worn_end end.WriteFault = end.WriteFault
worn_end end.Memory = end.Memory
worn_end end.Worn = end.Worn

abbrev pub last_end : End → ℕ → End
last_end e taken = if nat_lt taken (2 ^ 40) then e else worn_end e

abbrev pub at_end : Bool → End
at_end clean = if clean then end.Ended else end.Cut
