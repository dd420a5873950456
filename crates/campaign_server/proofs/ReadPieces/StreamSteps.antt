-- A stream of asks stands for the bytes that it was fed, step by step.
use Rattle.std.proofs.Common.{◌≡◌, ℕ, ◌-◌, ◌≤◌, List, [], ◌++◌, Option, Some, None, Bool, length, sym, ap, ◌∙◌, subst, arith}
use Rattle.std.proofs.lemmas.List.{length-take}
use Rattle.http_wire.specs.declared.messages.HttpHead.{HttpHead}
use Rattle.http_wire.specs.declared.messages.WireFault.{WireFault}
use Rattle.http_wire.specs.declared.messages.Step.{Step}
use Rattle.http_wire.specs.declared.messages.Step.TheVariants as steps
use Rattle.http_wire.specs.Heads.{behind_line_ends}
use Rattle.http_wire.specs.Messages.{IsFront, Faulty, Waits, request_with}
use Rattle.http_wire.specs.Pieces.{WireState, Steps, StepsAt, PiecesGoOn, wire_fed}
use Rattle.routes.specs.declared.keys.KeyRow.{KeyRow}
use Rattle.routes.specs.Limits.{most_body}
use Rattle.campaign_server.specs.declared.connections.asks.AskStep.{AskStep}
use Rattle.campaign_server.specs.declared.connections.asks.AskStep.TheVariants as ask
use Rattle.campaign_server.specs.declared.connections.asks.Present.{Present}
use Rattle.campaign_server.specs.declared.connections.asks.Present.TheVariants.{Nothing, Reads, Starved}
use Rattle.campaign_server.specs.ConnectionLoop.FedRequests.{AsksAt, Begins, EndsWith, IsBegun, PieceFits, PieceOn, RestFits, StreamStands, stream_at}

abbrev Laws : Type 0
Laws = (at more : List ℕ) (old new : WireState) → PiecesGoOn at more old new

-- the step of a wire that has given a head, or has not
inside : (left : Option ℕ) (old : WireState) (step : Step) (new : WireState) → old.left ≡ left → Steps old step new
    → StepsAt left old.bytes step new
inside left old step new is step_is = subst (λ l. StepsAt l old.bytes step new) is step_is

pub fed_stands : Laws → (keys : List KeyRow) (rest piece : List ℕ) (present : Present) (wire : WireState)
    → StreamStands keys rest present wire → StreamStands keys (rest ++ piece) present (wire_fed wire piece)
fed_stands laws keys rest piece Nothing wire on = (laws rest piece wire wire).fed_more None on
fed_stands laws keys rest piece (Reads reader close) wire (begun, on, close_is, asking) =
    (begun, (laws rest piece wire wire).fed_more (Some begun) on, close_is, asking)
fed_stands laws keys rest piece (Starved close) wire (begun, on, close_is) =
    (begun, (laws rest piece wire wire).fed_more (Some begun) on, close_is)

pub fed_fits : (present : Present) (wire : WireState) (piece : List ℕ) → RestFits present wire → RestFits present (wire_fed wire piece)
fed_fits Nothing wire piece fits = fits
fed_fits (Reads reader close) wire piece fits = fits
fed_fits (Starved close) wire piece fits = fits

module _ (laws : Laws) (keys : List KeyRow) (old new : WireState) where
  -- A head

  pub head_stands : (head : HttpHead) (present after : Present) → Steps old (steps.Head head) new → Begins keys head after
      → (rest : List ℕ) → StreamStands keys rest present old → StreamStands keys rest after new
  head_stands head Nothing Nothing step begins rest on = absurd begins
  head_stands head Nothing (Reads reader close) step begins rest on =
      (record { head = head; given = [] }, (laws rest [] old new).head head on step, begins.0, begins.1)
  head_stands head Nothing (Starved close) step begins rest on =
      (record { head = head; given = [] }, (laws rest [] old new).head head on step, begins)
  head_stands head (Reads reader close) after step begins rest (begun, on, close_is, asking) =
      absurd (inside (Some (begun.head.length - length begun.given)) old (steps.Head head) new on.0 step)
  head_stands head (Starved close) after step begins rest (begun, on, is) =
      absurd (inside (Some (begun.head.length - length begun.given)) old (steps.Head head) new on.0 step)

  pub head_fits : (head : HttpHead) (after : Present) (left : Option ℕ) (bytes : List ℕ)
      → StepsAt left bytes (steps.Head head) new → head.length ≤ most_body → Begins keys head after → RestFits after new
  head_fits head after (Some left) bytes step few begins = absurd step
  head_fits head Nothing None bytes step few begins = absurd begins
  head_fits head (Reads reader close) None bytes step few begins = (head.length, step.1, omega (arith, few, begins.2))
  head_fits head (Starved close) None bytes step few begins = (head.length, step.1)

  -- A piece of a body

  pub piece_stands : (text : List ℕ) (present after : Present) → Steps old (steps.Piece text) new
      → PieceOn present text after
      → (rest : List ℕ) → StreamStands keys rest present old → StreamStands keys rest after new
  piece_stands text Nothing after step goes rest on =
      absurd (inside None old (steps.Piece text) new (ap (λ wire. wire.left) on) step)
  piece_stands text (Reads reader close) Nothing step goes rest on = absurd goes
  piece_stands text (Reads reader close) (Reads later same) step goes rest (begun, on, close_is, asking) = (
    record { head = begun.head; given = begun.given ++ text },
    (laws rest [] old new).piece begun text on step,
    goes.0
        ∙ close_is,
    goes.2 begun.head keys begun.given asking,
  )
  piece_stands text (Reads reader close) (Starved same) step goes rest (begun, on, close_is, asking) =
      (record { head = begun.head; given = begun.given ++ text }, (laws rest [] old new).piece begun text on step, goes ∙ close_is)
  piece_stands text (Starved close) after step goes rest (begun, on, close_is) =
      subst (λ present. StreamStands keys rest present new) (sym goes)
      (record { head = begun.head; given = begun.given ++ text }, (laws rest [] old new).piece begun text on step, close_is)

  -- a piece has no more bytes than are still to come
  piece_few : (text : List ℕ) (left : ℕ) → old.left ≡ Some left → Steps old (steps.Piece text) new
      → (length text ≤ left) × (new.left ≡ Some (left - length text))
  piece_few text left is step =
      let (some, is_text, after) = inside (Some left) old (steps.Piece text) new is step in
      (omega (arith, ap length is_text, length-take left old.bytes), ap (λ wire. wire.left) after)

  pub piece_room : (text : List ℕ) (present : Present) → Steps old (steps.Piece text) new → RestFits present old
      → PieceFits present (length text)
  piece_room text Nothing step fits = tt
  piece_room text (Reads reader close) step (left, is, room) =
      let few = piece_few text left is step in omega (arith, few.0, room)
  piece_room text (Starved close) step fits = tt

  pub piece_fits : (text : List ℕ) (present after : Present) → Steps old (steps.Piece text) new
      → PieceOn present text after → RestFits present old → RestFits after new
  piece_fits text Nothing after step goes fits = absurd (inside None old (steps.Piece text) new fits step)
  piece_fits text (Reads reader close) Nothing step goes fits = absurd goes
  piece_fits text (Reads reader close) (Reads later same) step goes (left, is, room) =
      let few = piece_few text left is step in (left - length text, few.1, omega (arith, few.0, room, goes.1))
  piece_fits text (Reads reader close) (Starved same) step goes (left, is, room) =
      let few = piece_few text left is step in (left - length text, few.1)
  piece_fits text (Starved close) after step goes (left, is) =
      let few = piece_few text left is step in subst (λ present. RestFits present new) (sym goes) (left - length text, few.1)

  -- The end of a body

  pub whole_begun : (present : Present) → Steps old steps.Whole new → RestFits present old → IsBegun present
  whole_begun Nothing step fits = inside None old steps.Whole new fits step
  whole_begun (Reads reader close) step fits = tt
  whole_begun (Starved close) step fits = tt

  pub whole_asks : (present : Present) (told : AskStep) → Steps old steps.Whole new → EndsWith present told
      → (rest : List ℕ) → StreamStands keys rest present old → AsksAt keys rest told (stream_at new Nothing)
  whole_asks Nothing told step ends rest on = absurd ends
  whole_asks (Reads reader close) (ask.Whole reading same) step ends rest (begun, on, close_is, asking) =
      let (all, front, behind) = (laws rest [] old new).whole begun on step in (
        new.bytes,
        record {
          request = request_with begun.head begun.given;
          front = front;
          is_reading = record { reads = ends.2 begun.head keys begun.given asking; may_be_asked = ends.1; close_is = ends.0 ∙ close_is };
        },
        behind,
      )
  whole_asks (Reads reader close) (ask.Need clean) step ends rest on = absurd ends
  whole_asks (Reads reader close) (ask.Refused cause) step ends rest on = absurd ends
  whole_asks (Starved close) told step ends rest (begun, on, close_is) =
      let (all, front, behind) = (laws rest [] old new).whole begun on step in
      subst (λ s. AsksAt keys rest s (stream_at new Nothing)) (sym ends) (
        new.bytes,
        record {
          request = request_with begun.head begun.given;
          front = front;
          is_reading = record { reads = tt; may_be_asked = tt; close_is = close_is };
        },
        behind,
      )

  pub whole_fits : (left : Option ℕ) (bytes : List ℕ) → StepsAt left bytes steps.Whole new → RestFits Nothing new
  whole_fits None bytes step = absurd step
  whole_fits (Some left) bytes step = ap (λ wire. wire.left) step.1

  -- More bytes are needed, or they are refused

  pub need_asks : (clean : Bool) (present : Present) → Steps old (steps.Need clean) new
      → (rest : List ℕ) → StreamStands keys rest present old → Waits rest clean × StreamStands keys (behind_line_ends rest) present new
  need_asks clean Nothing step rest on = (laws rest [] old new).waits None clean on step
  need_asks clean (Reads reader close) step rest (begun, on, close_is, asking) =
      let waits = (laws rest [] old new).waits (Some begun) clean on step in (waits.0, (begun, waits.1, close_is, asking))
  need_asks clean (Starved close) step rest (begun, on, close_is) =
      let waits = (laws rest [] old new).waits (Some begun) clean on step in (waits.0, (begun, waits.1, close_is))

  pub need_fits : (clean : Bool) (present : Present) → Steps old (steps.Need clean) new → RestFits present old
      → RestFits present new
  need_fits clean Nothing step fits = ap (λ wire. wire.left) (inside None old (steps.Need clean) new fits step).2
  need_fits clean (Reads reader close) step (left, is, room) =
      (left, ap (λ wire. wire.left) (inside (Some left) old (steps.Need clean) new is step).3, room)
  need_fits clean (Starved close) step (left, is) =
      (left, ap (λ wire. wire.left) (inside (Some left) old (steps.Need clean) new is step).3)

  pub refused_asks : (cause : WireFault) (present : Present) → Steps old (steps.Refused cause) new → (rest : List ℕ)
      → StreamStands keys rest present old → IsFront rest (Faulty cause)
  refused_asks cause Nothing step rest on = (laws rest [] old new).refused cause on step
  refused_asks cause (Reads reader close) step rest (begun, on, close_is, asking) =
      absurd (inside (Some (begun.head.length - length begun.given)) old (steps.Refused cause) new on.0 step)
  refused_asks cause (Starved close) step rest (begun, on, is) =
      absurd (inside (Some (begun.head.length - length begun.given)) old (steps.Refused cause) new on.0 step)

  pub refused_fits : (cause : WireFault) (present : Present) → Steps old (steps.Refused cause) new → RestFits present old
      → RestFits present new
  refused_fits cause Nothing step fits = ap (λ wire. wire.left) (inside None old (steps.Refused cause) new fits step).1
  refused_fits cause (Reads reader close) step (left, is, room) =
      absurd (inside (Some left) old (steps.Refused cause) new is step)
  refused_fits cause (Starved close) step (left, is) = absurd (inside (Some left) old (steps.Refused cause) new is step)
