-- The requests of the bytes of a connection, and how the bytes end.
use Rattle.std.specs.Prelude.{◌≡◌, ◌⊎◌, ℕ, nat_lt, Bool, true, false, not, List, [], ◌∷◌, ◌++◌, length, take, drop, Option, Some, None, Result, Ok, Err, MatchBool, if◌then◌else◌}
use Rattle.httparse.specs.Grammar.{RequestHead}
use Rattle.http_wire.specs.declared.messages.HttpHead.{HttpHead}
use Rattle.http_wire.specs.declared.messages.HttpRequest.{HttpRequest}
use Rattle.http_wire.specs.declared.messages.WireFault.{WireFault}
use Rattle.http_wire.specs.declared.messages.WireFault.TheVariants as fault
use Rattle.http_wire.specs.Heads.{behind_line_ends, head_length, IsHead, head_fields, is_filled, body_length, is_last}

-- what stands at the front of bytes, up to the end of a head
pub data HeadFront : Type 0 where
  -- a head, and the bytes behind it
  Heads : HttpHead → List ℕ → HeadFront
  Faults : WireFault → HeadFront
  -- more bytes are needed
  Needs : HeadFront

-- what stands at the front of bytes
pub data Front : Type 0 where
  -- a whole request, and the bytes behind it
  Whole : HttpRequest → List ℕ → Front
  Faulty : WireFault → Front
  -- more bytes are needed
  Unfinished : Front

-- a head whose body has so many bytes
abbrev pub head_of : RequestHead → ℕ → HttpHead
head_of head n = record { method = head.method; path = head.target; fields = head_fields head; length = n; close = is_last head.minor (head_fields head) }

-- the request of a head and its body
abbrev pub request_with : HttpHead → List ℕ → HttpRequest
request_with head body = record { method = head.method; path = head.path; fields = head.fields; body = body; close = head.close }

-- what stands where a head is whose body has this length, or this fault
abbrev pub behind_head : RequestHead → Result ℕ WireFault → List ℕ → HeadFront
behind_head head (Err fault) rest = Faults fault
behind_head head (Ok n) rest = Heads (head_of head n) rest

-- what stands where this text is to be a head, by the bytes that follow
abbrev pub AtHead : List ℕ → List ℕ → HeadFront → Type 0
AtHead text rest front =
    (((head : RequestHead) → ¬ (IsHead text head)) × (front ≡ Faults fault.Head))
    ⊎ ((head : RequestHead) × IsHead text head × (front ≡ behind_head head (body_length head.method (head_fields head)) rest))

-- what stands where a head of this length is to be, or where the first 8,192 bytes end none
abbrev pub AtLength : List ℕ → Option ℕ → HeadFront → Type 0
AtLength message None front = front ≡ (if nat_lt (length message) 8192 then Needs else Faults fault.HeadSize)
AtLength message (Some n) front = AtHead (take n message) (drop n message) front

-- this stands at the front of bytes that begin with no CR or LF
abbrev pub AtMessage : List ℕ → HeadFront → Type 0
AtMessage message front = AtLength message (head_length (take 8192 message)) front

-- this stands at the front of the bytes, up to the end of a head
abbrev pub IsHeadFront : List ℕ → HeadFront → Type 0
IsHeadFront bytes front = AtMessage (behind_line_ends bytes) front

-- what a head is with the bytes behind it
abbrev pub front_of : HeadFront → Front
front_of (Heads head rest) = if nat_lt (length rest) head.length then Unfinished else Whole (request_with head (take head.length rest)) (drop head.length rest)
front_of (Faults fault) = Faulty fault
front_of Needs = Unfinished

-- this stands at the front of the bytes
abbrev pub IsFront : List ℕ → Front → Type 0
IsFront bytes front = (upto : HeadFront) × IsHeadFront bytes upto × (front ≡ front_of upto)

-- how bytes end behind their whole requests
pub data End : Type 0 where
  -- the last request closes, and what follows isn't looked at
  Closed : End
  Refused : WireFault → End
  -- nothing but CR and LF is left
  Clean : End
  Cut : End

abbrev pub IsEnd : List ℕ → End → Type 0
IsEnd bytes Closed = ⊥
IsEnd bytes (Refused fault) = IsFront bytes (Faulty fault)
IsEnd bytes Clean = IsFront bytes Unfinished × (behind_line_ends bytes ≡ [])
IsEnd bytes Cut = IsFront bytes Unfinished × (is_filled (behind_line_ends bytes) ≡ true)

-- the bytes are these requests from the start, and then this end
abbrev pub Messages : List ℕ → List HttpRequest → End → Type 0
Messages bytes [] end = IsEnd bytes end
Messages bytes (request ∷ requests) end =
    (rest : List ℕ) × IsFront bytes (Whole request rest)
    × MatchBool request.close ((requests ≡ []) × (end ≡ Closed)) (Messages rest requests end)

-- no whole request stands at the front, and no fault; clean is that nothing but CR and LF is left
abbrev pub Waits : List ℕ → Bool → Type 0
Waits bytes clean = IsFront bytes Unfinished × (clean ≡ not (is_filled (behind_line_ends bytes)))

-- a whole request and a fault stay where more bytes come behind them
pub record Stays (bytes more : List ℕ) : Type 0 where
  pub whole : (request : HttpRequest) (rest : List ℕ) → IsFront bytes (Whole request rest) → IsFront (bytes ++ more) (Whole request (rest ++ more))
  pub faulty : (fault : WireFault) → IsFront bytes (Faulty fault) → IsFront (bytes ++ more) (Faulty fault)

-- how what stands at the front goes on to the requests of bytes of which `more` is still to be fed
pub record FrontGoesOn (old new more : List ℕ) : Type 0 where
  pub request : (request : HttpRequest) (requests : List HttpRequest) (end : End) → IsFront old (Whole request new)
      → request.close ≡ false → Messages (new ++ more) requests end → Messages (old ++ more) (request ∷ requests) end
  pub last : (request : HttpRequest) → IsFront old (Whole request new) → request.close ≡ true → Messages (old ++ more) (request ∷ []) Closed
  pub refused : (fault : WireFault) → IsFront old (Faulty fault) → Messages (old ++ more) [] (Refused fault)
  pub ends : (clean : Bool) → Waits old clean → Messages old [] (if clean then Clean else Cut)

-- the bytes begin with these requests, none of which closes, and the rest stands behind them but for the CR and LF that are passed over
abbrev pub Behind : List ℕ → List HttpRequest → List ℕ → Type 0
Behind bytes [] rest = behind_line_ends bytes ≡ behind_line_ends rest
Behind bytes (request ∷ requests) rest = (next : List ℕ) × IsFront bytes (Whole request next) × (request.close ≡ false) × Behind next requests rest

-- how the requests at the front of bytes go on, where `old` is behind them: as bytes are fed, by what stands there, and to the end
pub record ReadsOn (bytes : List ℕ) (requests : List HttpRequest) (old new more : List ℕ) : Type 0 where
  pub fed : Behind bytes requests old → Behind (bytes ++ more) requests (old ++ more)
  pub waits : Behind bytes requests old → Behind bytes requests (behind_line_ends old)
  pub request : (request : HttpRequest) → Behind bytes requests old → IsFront old (Whole request new) → request.close ≡ false
      → Behind bytes (requests ++ request ∷ []) new
  pub ends : (others : List HttpRequest) (end : End) → Behind bytes requests old → Messages old others end → Messages bytes (requests ++ others) end
