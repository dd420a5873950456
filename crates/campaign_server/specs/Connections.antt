-- What a connection comes to, over the bytes that were read.
use Rattle.std.specs.Prelude.{◌≡◌, ◌⊎◌, ℕ, ◌≤◌, ◌<◌, ◌^◌, Bool, List, [], ◌∷◌, ◌++◌, IfSome, length, take, if◌then◌else◌}
use Rattle.std.specs.Io.KnownBytes.{Appends, Consumes, IsAtEnd}
use Rattle.decimal_rank.specs.Causes.{Rose}
use Rattle.http_wire.specs.declared.messages.HttpRequest.{HttpRequest}
use Rattle.http_wire.specs.declared.messages.WireFault.{WireFault}
use Rattle.http_wire.specs.Messages.{Whole, IsFront, Behind, Messages, End as Ending, Closed, Refused, Clean, Cut}
use Rattle.routes.specs.declared.keys.KeyRow.{KeyRow}
use Rattle.rulebook.specs.declared.answer.Answer.{Answer}
use Rattle.rulebook.specs.declared.ask.Addressed.{Addressed}
use Rattle.campaign_server.specs.declared.ends.End.{End}
use Rattle.campaign_server.specs.declared.ends.End.TheVariants as end
use Rattle.campaign_server.specs.Links.{LinkState}
use Rattle.campaign_server.specs.Conversations.Chains.{Chain, Said, requests_of, text_said, answer_texts, last_text}

-- these bytes were read
pub record Hears (old new : LinkState) (bytes : List ℕ) : Type 0 where
  pub left : Consumes old.reading.left new.reading.left bytes
  pub taken : Appends old.reading.taken new.reading.taken bytes

-- bytes that go on: their whole requests don't close, and no message is refused
abbrev pub at_pause : Bool → Ending
at_pause clean = if clean then Clean else Cut

-- the last read gave so many bytes, where the link tells that
abbrev pub IsLast : LinkState → ℕ → Type 0
IsLast link count = IfSome link.reading.last (λ given. given ≡ count)

-- Before the piece that the last read gave, the bytes went on: nothing more was read once a request closed or was refused. Without a read there
-- is none.
pub record ReadsNoMore (old new : LinkState) (bytes : List ℕ) : Type 0 where
  pub before : List ℕ
  pub piece : List ℕ
  pub split : bytes ≡ before ++ piece
  pub few : length piece ≤ 8192
  pub last : IsLast new (length piece) ⊎ (new.reading ≡ old.reading)
  pub requests : List HttpRequest
  pub clean : Bool
  pub goes_on : Messages before requests (at_pause clean)

module _ (talks : List Said → Type 0) where
  -- the requests before the rest of the bytes, none of which closes, were answered, and nothing else was written
  pub record Spoke (old : LinkState) (bytes rest : List ℕ) (new : LinkState) : Type 0 where
    pub said : List Said
    pub split : Behind bytes (requests_of said) rest
    pub talk : talks said
    pub written : Appends old.writing.written new.writing.written (answer_texts said)
    pub later : old.writing.faults ≤ new.writing.faults

  -- all requests of the bytes were answered, and then the end that the bytes have
  pub record SpokeAll (old : LinkState) (bytes : List ℕ) (new : LinkState) (ending : Ending) : Type 0 where
    pub said : List Said
    pub are_messages : Messages bytes (requests_of said) ending
    pub talk : talks said
    pub written : Appends old.writing.written new.writing.written (answer_texts said ++ last_text ending)

  -- The requests up to the last one were answered, but a write failed in the answer of the last, of which so many bytes were written. No later one was asked.
  pub record SpokePart (old : LinkState) (bytes : List ℕ) (new : LinkState) : Type 0 where
    pub said : List Said
    pub last : Said
    pub rest : List ℕ
    pub next : List ℕ
    pub count : ℕ
    pub split : Behind bytes (requests_of said) rest
    pub front : IsFront rest (Whole last.request next)
    pub talk : talks (said ++ last ∷ [])
    pub few : count ≤ length (text_said last)
    pub written : Appends old.writing.written new.writing.written (answer_texts said ++ take count (text_said last))
    pub fault : Rose old.writing.faults new.writing.faults

  -- all requests were answered, but a write failed in the answer of the refused message behind them
  pub record SpokeCut (old : LinkState) (bytes : List ℕ) (new : LinkState) : Type 0 where
    pub said : List Said
    pub cause : WireFault
    pub count : ℕ
    pub are_messages : Messages bytes (requests_of said) (Refused cause)
    pub talk : talks said
    pub few : count ≤ length (last_text (Refused cause))
    pub written : Appends old.writing.written new.writing.written (answer_texts said ++ take count (last_text (Refused cause)))
    pub fault : Rose old.writing.faults new.writing.faults

  -- What the bytes that were read come to, by the end of the connection. Where as many were taken as may be, it is Worn in place of Ended, Cut and Refused.
  abbrev pub EndsOn : List ℕ → LinkState → LinkState → End → Type 0
  EndsOn bytes old new end.Ended = (length bytes < 2 ^ 40) × ((IsAtEnd new.reading.left × SpokeAll old bytes new Clean) ⊎ SpokeAll old bytes new Closed)
  EndsOn bytes old new end.Cut = (length bytes < 2 ^ 40) × IsAtEnd new.reading.left × SpokeAll old bytes new Cut
  EndsOn bytes old new (end.Refused cause) = (length bytes < 2 ^ 40) × SpokeAll old bytes new (Refused cause)
  EndsOn bytes old new end.ReadFault = ((clean : Bool) × SpokeAll old bytes new (at_pause clean)) × Rose old.reading.faults new.reading.faults
  EndsOn bytes old new end.WriteFault = SpokePart old bytes new ⊎ SpokeCut old bytes new
  EndsOn bytes old new end.Memory = (rest : List ℕ) × Spoke old bytes rest new
  EndsOn bytes old new end.Worn = (length bytes ≡ 2 ^ 40) × ((ending : Ending) × SpokeAll old bytes new ending)

  -- what a connection comes to: the bytes that were read, what they come to, and that no more were read
  pub record ConnectionEnds (old new : LinkState) (e : End) : Type 0 where
    pub bytes : List ℕ
    pub heard : Hears old new bytes
    pub ends : EndsOn bytes old new e
    pub no_more : ReadsNoMore old new bytes

-- What a connection to a teller comes to: each of its states leads to the next by one request of the bytes, at one moment of the clock.
abbrev pub Converses : {S : Type 0} → (S → Addressed → Answer → S → Type 0) → List KeyRow → S → LinkState → S → LinkState → End → Type 0
Converses tells keys old was new is how = ConnectionEnds (Chain tells keys old was.clock new is.clock) was is how
