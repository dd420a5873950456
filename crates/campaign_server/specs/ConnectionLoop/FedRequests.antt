-- What comes next of the bytes of a connection, as what is asked.
use Rattle.std.specs.Prelude.{◌≡◌, ℕ, ◌+◌, ◌≤◌, ◌<◌, Bool, List, [], ◌++◌, length, None, Some, Result, Err, IfOk, IsTrue}
use Rattle.http_wire.specs.declared.messages.HttpHead.{HttpHead}
use Rattle.http_wire.specs.declared.messages.HttpRequest.{HttpRequest}
use Rattle.http_wire.specs.Heads.{behind_line_ends}
use Rattle.http_wire.specs.Messages.{Whole as WholeFront, Faulty, IsFront, Waits, request_with}
use Rattle.http_wire.specs.Pieces.{WireState, Begun, StandsOn, wire_fed, steps_left}
use Rattle.routes.specs.declared.faults.RouteFault.{RouteFault}
use Rattle.routes.specs.declared.faults.RouteFault.TheVariants as faults
use Rattle.routes.specs.declared.keys.KeyRow.{KeyRow}
use Rattle.routes.specs.Asks.{Asked, Reads}
use Rattle.routes.specs.AskReading.AskStates.{IsAsking}
use Rattle.routes.specs.Faults.{IsRead}
use Rattle.routes.specs.Limits.{most_body}
use Rattle.rulebook.specs.declared.limits.TheConstants.{MAX_MOMENT}
use Rattle.rulebook.specs.Histories.Legal.{is_well_addressed}
use Rattle.campaign_server.specs.declared.connections.asks.AskStep.{AskStep}
use Rattle.campaign_server.specs.declared.connections.asks.AskStep.TheVariants.{Whole, Need, Refused}
use Rattle.campaign_server.specs.declared.connections.asks.Present.{Present}
use Rattle.campaign_server.specs.declared.connections.asks.WireStep.{WireStep}
use Rattle.campaign_server.specs.declared.connections.asks.WireStep.TheVariants.{GoesOn, Ends, Needs, Refused as TurnRefused}
use Rattle.campaign_server.specs.declared.connections.asks.Present.TheVariants.{Nothing, Reads as ReadsOn, Starved}

-- what is read may be asked at each moment
abbrev pub MayBeAsked : Result Asked RouteFault → Type 0
MayBeAsked reading = IfOk reading (λ asked. (moment : ℕ) → moment ≤ MAX_MOMENT → IsTrue (is_well_addressed asked.0 asked.1 asked.2 moment))

-- what a request asks or its first fault, and whether it closes
pub record IsReading (keys : List KeyRow) (request : HttpRequest) (reading : Result Asked RouteFault) (close : Bool) : Type 0 where
  pub reads : IsRead (Reads request keys) reading
  pub may_be_asked : MayBeAsked reading
  pub close_is : close ≡ request.close

-- a whole request stands at the front, with this reading, and closes or not
pub record IsRequest (keys : List KeyRow) (old : List ℕ) (reading : Result Asked RouteFault) (close : Bool) (new : List ℕ) : Type 0 where
  pub request : HttpRequest
  pub front : IsFront old (WholeFront request new)
  pub is_reading : IsReading keys request reading close

-- the bytes of a connection that were fed and not yet given, and the request that was begun
pub record StreamState : Type 0 where
  pub wire : WireState
  pub present : Present

abbrev pub fresh : StreamState
fresh = record { wire = record { bytes = []; left = None }; present = Nothing }

abbrev pub fed_on : StreamState → List ℕ → StreamState
fed_on stream piece = record { wire = wire_fed stream.wire piece; present = stream.present }

abbrev pub StreamStands : List KeyRow → List ℕ → Present → WireState → Type 0
StreamStands keys rest Nothing wire = StandsOn rest None wire
StreamStands keys rest (ReadsOn reader close) wire =
    (begun : Begun) × StandsOn rest (Some begun) wire × (close ≡ begun.head.close) × IsAsking begun.head keys begun.given reader
StreamStands keys rest (Starved close) wire = (begun : Begun) × StandsOn rest (Some begun) wire × (close ≡ begun.head.close)

-- The stream was fed these bytes from behind a whole request on. Of the request that they begin, the head and the bytes that came of its body
-- are read, unless there was no memory for that.
abbrev pub WasFed : List KeyRow → List ℕ → StreamState → Type 0
WasFed keys rest stream = StreamStands keys rest stream.present stream.wire

-- a reader has room for what is still to come of its body
abbrev pub RestFits : Present → WireState → Type 0
RestFits Nothing wire = wire.left ≡ None
RestFits (ReadsOn reader close) wire = (left : ℕ) × (wire.left ≡ Some left) × (reader.fed + left ≤ most_body)
RestFits (Starved close) wire = (left : ℕ) × (wire.left ≡ Some left)

-- a request was begun
abbrev pub IsBegun : Present → Type 0
IsBegun Nothing = ⊥
IsBegun (ReadsOn reader close) = Unit {0}
IsBegun (Starved close) = Unit {0}

-- what a head begins
abbrev pub Begins : List KeyRow → HttpHead → Present → Type 0
Begins keys head Nothing = ⊥
Begins keys head (ReadsOn reader close) = (close ≡ head.close) × IsAsking head keys [] reader × (reader.fed ≡ 0)
Begins keys head (Starved close) = close ≡ head.close

-- a reader has room for a piece
abbrev pub PieceFits : Present → ℕ → Type 0
PieceFits Nothing more = Unit {0}
PieceFits (ReadsOn reader close) more = reader.fed + more ≤ most_body
PieceFits (Starved close) more = Unit {0}

-- the request goes on with a piece of its body
abbrev pub PieceOn : Present → List ℕ → Present → Type 0
PieceOn Nothing piece new = new ≡ Nothing
PieceOn (ReadsOn reader close) piece (ReadsOn later same) =
    (same ≡ close) × (later.fed ≡ reader.fed + length piece)
    × ((head : HttpHead) (keys : List KeyRow) (body : List ℕ) → IsAsking head keys body reader → IsAsking head keys (body ++ piece) later)
PieceOn (ReadsOn reader close) piece (Starved same) = same ≡ close
PieceOn (ReadsOn reader close) piece Nothing = ⊥
PieceOn (Starved close) piece new = new ≡ Starved close

-- what is read of a request whose body is whole
abbrev pub EndsWith : Present → AskStep → Type 0
EndsWith Nothing step = ⊥
EndsWith (ReadsOn reader close) (Whole reading same) =
    (same ≡ close) × MayBeAsked reading
    × ((head : HttpHead) (keys : List KeyRow) (body : List ℕ) → IsAsking head keys body reader → IsRead (Reads (request_with head body) keys) reading)
EndsWith (ReadsOn reader close) (Need clean) = ⊥
EndsWith (ReadsOn reader close) (Refused cause) = ⊥
EndsWith (Starved close) step = step ≡ Whole (Err faults.Memory) close

abbrev pub stream_at : WireState → Present → StreamState
stream_at wire present = record { wire = wire; present = present }

-- a whole request stands at the front with this reading; more bytes are needed; or they are refused
abbrev pub AsksAt : List KeyRow → List ℕ → AskStep → StreamState → Type 0
AsksAt keys rest (Whole reading close) new = (next : List ℕ) × IsRequest keys rest reading close next × WasFed keys next new
AsksAt keys rest (Need clean) new = Waits rest clean × WasFed keys (behind_line_ends rest) new
AsksAt keys rest (Refused cause) new = IsFront rest (Faulty cause)

-- what comes next of whatever bytes the stream stands for
abbrev pub AsksNext : List KeyRow → StreamState → AskStep → StreamState → Type 0
AsksNext keys old step new = (rest : List ℕ) → WasFed keys rest old → AsksAt keys rest step new

-- What one step of the wire comes to. Behind a whole body the bytes that are left stand for themselves, once the request is read.
abbrev pub Goes : List KeyRow → StreamState → WireStep → StreamState → Type 0
Goes keys old GoesOn new = (rest : List ℕ) → WasFed keys rest old → WasFed keys rest new
Goes keys old Ends new = (told : AskStep) → EndsWith new.present told → AsksNext keys old told (stream_at new.wire Nothing)
Goes keys old (Needs clean) new = AsksNext keys old (Need clean) new
Goes keys old (TurnRefused cause) new = AsksNext keys old (Refused cause) new

abbrev pub IsAskable : AskStep → Type 0
IsAskable (Whole reading close) = MayBeAsked reading
IsAskable (Need clean) = Unit {0}
IsAskable (Refused cause) = Unit {0}

-- behind a whole request fewer steps may come without a byte more
abbrev pub IsShorter : StreamState → AskStep → StreamState → Type 0
IsShorter old (Whole reading close) new = steps_left new.wire < steps_left old.wire
IsShorter old (Need clean) new = Unit {0}
IsShorter old (Refused cause) new = Unit {0}

abbrev pub GoesShorter : StreamState → WireStep → StreamState → Type 0
GoesShorter old GoesOn new = steps_left new.wire < steps_left old.wire
GoesShorter old Ends new = steps_left new.wire < steps_left old.wire
GoesShorter old (Needs clean) new = Unit {0}
GoesShorter old (TurnRefused cause) new = Unit {0}

-- the request that was begun fits the wire; where its body is whole, the wire has none
abbrev pub GoesFit : WireStep → Present → WireState → Type 0
GoesFit GoesOn present wire = RestFits present wire
GoesFit Ends present wire = IsBegun present × RestFits Nothing wire
GoesFit (Needs clean) present wire = RestFits present wire
GoesFit (TurnRefused cause) present wire = RestFits present wire
