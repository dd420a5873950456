-- The steps of a wire, which gives a head, the pieces of its body as they come, and then that it was whole.
use Rattle.std.specs.Prelude.{◌≡◌, ◌≢◌, ℕ, ◌+◌, ◌-◌, ◌<◌, ◌≤◌, Bool, false, not, List, [], ◌++◌, length, take, drop, Option, Some, None}
use Rattle.http_wire.specs.declared.messages.HttpHead.{HttpHead}
use Rattle.http_wire.specs.declared.messages.WireFault.{WireFault}
use Rattle.http_wire.specs.declared.messages.Step.{Step}
use Rattle.http_wire.specs.declared.messages.Step.TheVariants as steps
use Rattle.http_wire.specs.Heads.{behind_line_ends, is_filled}
use Rattle.http_wire.specs.Messages.{Heads, Faults, Needs, IsHeadFront, Whole, Faulty, IsFront, Waits, request_with}

-- the bytes that were fed and not given, and how many of a body are still to be given, where one was begun
pub record WireState : Type 0 where
  pub bytes : List ℕ
  pub left : Option ℕ

abbrev pub wire_fed : WireState → List ℕ → WireState
wire_fed wire more = record { bytes = wire.bytes ++ more; left = wire.left }

-- a step where no body was begun
abbrev pub HeadSteps : List ℕ → Step → WireState → Type 0
HeadSteps bytes (steps.Head head) new = IsHeadFront bytes (Heads head new.bytes) × (new.left ≡ Some head.length)
HeadSteps bytes (steps.Piece text) new = ⊥
HeadSteps bytes steps.Whole new = ⊥
HeadSteps bytes (steps.Need clean) new =
    IsHeadFront bytes Needs × (clean ≡ not (is_filled (behind_line_ends bytes))) × (new ≡ record { bytes = behind_line_ends bytes; left = None })
HeadSteps bytes (steps.Refused fault) new = IsHeadFront bytes (Faults fault) × (new ≡ record { bytes = behind_line_ends bytes; left = None })

-- a step where so many bytes of a body are still to be given
abbrev pub BodySteps : ℕ → List ℕ → Step → WireState → Type 0
BodySteps left bytes (steps.Head head) new = ⊥
BodySteps left bytes (steps.Piece text) new =
    (text ≢ []) × (text ≡ take left bytes) × (new ≡ record { bytes = drop left bytes; left = Some (left - length text) })
BodySteps left bytes steps.Whole new = (left ≡ 0) × (new ≡ record { bytes = bytes; left = None })
BodySteps left bytes (steps.Need clean) new =
    (0 < left) × (bytes ≡ []) × (clean ≡ false) × (new ≡ record { bytes = []; left = Some left })
BodySteps left bytes (steps.Refused fault) new = ⊥

abbrev pub StepsAt : Option ℕ → List ℕ → Step → WireState → Type 0
StepsAt None bytes step new = HeadSteps bytes step new
StepsAt (Some left) bytes step new = BodySteps left bytes step new

-- the step leads a wire from one state to the other
abbrev pub Steps : WireState → Step → WireState → Type 0
Steps old step new = StepsAt old.left old.bytes step new

-- a body has at most 16,777,216 bytes
abbrev pub BodyFits : Step → Type 0
BodyFits (steps.Head head) = head.length ≤ 16777216
BodyFits (steps.Piece text) = Unit {0}
BodyFits steps.Whole = Unit {0}
BodyFits (steps.Need clean) = Unit {0}
BodyFits (steps.Refused fault) = Unit {0}

abbrev pub begun_size : Option ℕ → ℕ
begun_size None = 0
begun_size (Some left) = 1

-- how many steps there may be without a byte more
abbrev pub steps_left : WireState → ℕ
steps_left wire = length wire.bytes + length wire.bytes + begun_size wire.left

-- each step is one less, but for those that need or refuse
abbrev pub Shortens : WireState → Step → WireState → Type 0
Shortens old (steps.Head head) new = steps_left new < steps_left old
Shortens old (steps.Piece text) new = steps_left new < steps_left old
Shortens old steps.Whole new = steps_left new < steps_left old
Shortens old (steps.Need clean) new = Unit {0}
Shortens old (steps.Refused fault) new = Unit {0}

-- a request that was begun: its head, and the bytes of its body that were given
pub record Begun : Type 0 where
  pub head : HttpHead
  pub given : List ℕ

-- A wire was fed these bytes from behind a whole request on: it holds them all, or gave a head of them and bytes of its body.
abbrev pub StandsOn : List ℕ → Option Begun → WireState → Type 0
StandsOn at None wire = wire ≡ record { bytes = at; left = None }
StandsOn at (Some begun) wire =
    (wire.left ≡ Some (begun.head.length - length begun.given)) × (length begun.given ≤ begun.head.length)
    × IsHeadFront at (Heads begun.head (begun.given ++ wire.bytes))

-- how what a wire was fed goes on by its steps: a head with the joined pieces behind it is the request at the front
pub record PiecesGoOn (at more : List ℕ) (old new : WireState) : Type 0 where
  pub fed_more : (now : Option Begun) → StandsOn at now old → StandsOn (at ++ more) now (wire_fed old more)
  pub head : (head : HttpHead) → StandsOn at None old → Steps old (steps.Head head) new → StandsOn at (Some (record { head = head; given = [] })) new
  pub piece : (begun : Begun) (text : List ℕ) → StandsOn at (Some begun) old → Steps old (steps.Piece text) new
      → StandsOn at (Some (record { head = begun.head; given = begun.given ++ text })) new
  pub whole : (begun : Begun) → StandsOn at (Some begun) old → Steps old steps.Whole new
      → (length begun.given ≡ begun.head.length) × IsFront at (Whole (request_with begun.head begun.given) new.bytes) × StandsOn new.bytes None new
  pub waits : (now : Option Begun) (clean : Bool) → StandsOn at now old → Steps old (steps.Need clean) new
      → Waits at clean × StandsOn (behind_line_ends at) now new
  pub refused : (fault : WireFault) → StandsOn at None old → Steps old (steps.Refused fault) new → IsFront at (Faulty fault)

-- where a step refuses, each further step is the same refusal, whatever more is fed
abbrev pub RefusesAgain : WireState → WireState → List ℕ → Type 0
RefusesAgain old new more =
    (fault : WireFault) (step : Step) (after : WireState) → Steps old (steps.Refused fault) new
    → Steps (wire_fed new more) step after → step ≡ steps.Refused fault
