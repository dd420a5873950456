-- The steps of a wire are what stands at the front of the bytes that it was fed.
use Rattle.std.proofs.Common.{◌≡◌, ℕ, ◌-◌, ◌<◌, ◌≤◌, List, [], ◌++◌, Option, Some, None, Bool, length, drop, refl, sym, ap, ◌∙◌, subst, arith, append-nil, append_assoc, length-append}
use Rattle.std.specs.Prelude.{not}
use Rattle.std.proofs.lemmas.List.{length-take, take-append-drop}
use Rattle.http_wire.specs.declared.messages.HttpHead.{HttpHead}
use Rattle.http_wire.specs.declared.messages.WireFault.{WireFault}
use Rattle.http_wire.specs.declared.messages.Step.{Step}
use Rattle.http_wire.specs.declared.messages.Step.TheVariants as steps
use Rattle.http_wire.specs.Heads.{behind_line_ends}
use Rattle.http_wire.specs.Messages.{Heads, Faults, Needs, Whole, Faulty, AtMessage, IsHeadFront, IsFront, Waits, front_of, request_with}
use Rattle.http_wire.specs.Pieces.{WireState, wire_fed, Steps, StepsAt, HeadSteps, BodySteps, Begun, StandsOn, PiecesGoOn, RefusesAgain}
use Rattle.http_wire.proofs.HeadLengths.{passed_again}
use Rattle.http_wire.proofs.FrontLaws.{head_front_is_one, heads_stay, faults_stay, heads_filled, short_body, whole_body}

fed_stands : (at more : List ℕ) (old : WireState) (now : Option Begun) → StandsOn at now old
    → StandsOn (at ++ more) now (wire_fed old more)
fed_stands at more old None is = ap (λ wire. wire_fed wire more) is
fed_stands at more old (Some begun) (left, most, front) = (
  left,
  most,
  subst (λ rest. IsHeadFront (at ++ more) (Heads begun.head rest)) (append_assoc begun.given old.bytes more)
      (heads_stay at more begun.head (begun.given ++ old.bytes) front),
)

head_stands : (at : List ℕ) (old new : WireState) (head : HttpHead) → StandsOn at None old
    → Steps old (steps.Head head) new → StandsOn at (Some (record { head = head; given = [] })) new
head_stands at old new head is step =
    let here : StepsAt None at (steps.Head head) new = subst (λ wire. Steps wire (steps.Head head) new) is step in
    let all : head.length ≡ head.length - 0 = omega arith in
    (here.1 ∙ ap (λ (n : ℕ). Some n) all, omega arith, here.0)

-- the bytes of a piece, and what is left
piece_stands : (at : List ℕ) (new : WireState) (bytes : List ℕ) (begun : Begun) (text : List ℕ)
    → length begun.given ≤ begun.head.length
    → IsHeadFront at (Heads begun.head (begun.given ++ bytes))
    → BodySteps (begun.head.length - length begun.given) bytes (steps.Piece text) new
    → StandsOn at (Some (record { head = begun.head; given = begun.given ++ text })) new
piece_stands at new bytes begun text most front (some, is, after) =
    let left = begun.head.length - length begun.given in
    let count = length-append begun.given text in
    let size : length text ≤ left = omega (arith, ap length is, length-take left bytes) in
    let joined : begun.given ++ bytes ≡ (begun.given ++ text) ++ drop left bytes =
    ap (λ xs. begun.given ++ xs) (sym (take-append-drop left bytes) ∙ ap (λ xs. xs ++ drop left bytes) (sym is))
    ∙ sym (append_assoc begun.given text (drop left bytes)) in
    let now_left : left - length text ≡ begun.head.length - length (begun.given ++ text) = omega (arith, count, most, size) in (
      ap (λ wire. wire.left) after ∙ ap (λ (n : ℕ). Some n) now_left,
      omega (arith, count, most, size),
      subst (λ xs. IsHeadFront at (Heads begun.head ((begun.given ++ text) ++ xs))) (sym (ap (λ wire. wire.bytes) after))
          (subst (λ rest. IsHeadFront at (Heads begun.head rest)) joined front),
    )

-- the step of a wire inside a body
in_body : (old : WireState) (left : ℕ) (step : Step) (new : WireState) → old.left ≡ Some left → Steps old step new
    → BodySteps left old.bytes step new
in_body old left step new is step_is = subst (λ l. StepsAt l old.bytes step new) is step_is

whole_stands : (at : List ℕ) (old new : WireState) (begun : Begun) → StandsOn at (Some begun) old
    → Steps old steps.Whole new
    → (length begun.given ≡ begun.head.length) × IsFront at (Whole (request_with begun.head begun.given) new.bytes) × StandsOn new.bytes None new
whole_stands at old new begun (left, most, front) step =
    let (none, after) = in_body old (begun.head.length - length begun.given) steps.Whole new left step in
    let all : length begun.given ≡ begun.head.length = omega (arith, none, most) in
    let rest : new.bytes ≡ old.bytes = ap (λ wire. wire.bytes) after in
    let front_is = front_of (Heads begun.head (begun.given ++ old.bytes)) in (
      all,
      (
        Heads begun.head (begun.given ++ old.bytes),
        front,
        subst (λ xs. Whole (request_with begun.head begun.given) xs ≡ front_is)
            (sym rest) (whole_body begun.head begun.given old.bytes all),
      ),
      after ∙ ap (λ xs. record { bytes = xs; left = None }) (sym rest),
    )

waits_at : (at : List ℕ) (old new : WireState) (now : Option Begun) (clean : Bool) → StandsOn at now old
    → Steps old (steps.Need clean) new → Waits at clean × StandsOn (behind_line_ends at) now new
waits_at at old new None clean is step =
    let (front, told, after) = subst (λ wire. Steps wire (steps.Need clean) new) is step in
    (((Needs, front, refl), told), after)
waits_at at old new (Some begun) clean (left, most, front) step =
    let (some, none, told, after) = in_body old (begun.head.length - length begun.given) (steps.Need clean) new left step in
    let given : begun.given ++ old.bytes ≡ begun.given = ap (λ xs. begun.given ++ xs) none ∙ append-nil begun.given in
    let few : length (begun.given ++ old.bytes) < begun.head.length = omega (arith, ap length given, some, most) in
    let filled = heads_filled at begun.head (begun.given ++ old.bytes) front in (
      ((Heads begun.head (begun.given ++ old.bytes), front, short_body begun.head (begun.given ++ old.bytes) few), told ∙ ap not (sym filled)),
      (
        ap (λ wire. wire.left) after,
        most,
        subst (λ xs. IsHeadFront (behind_line_ends at) (Heads begun.head (begun.given ++ xs))) (none ∙ sym (ap (λ wire. wire.bytes) after))
            (subst (λ message. AtMessage message (Heads begun.head (begun.given ++ old.bytes))) (sym (passed_again at)) front),
      ),
    )

refused_at : (at : List ℕ) (old new : WireState) (cause : WireFault) → StandsOn at None old
    → Steps old (steps.Refused cause) new → IsFront at (Faulty cause)
refused_at at old new cause is step =
    let here : StepsAt None at (steps.Refused cause) new = subst (λ wire. Steps wire (steps.Refused cause) new) is step in
    (Faults cause, here.0, refl)

pub pieces_go_on : (at more : List ℕ) (old new : WireState) → PiecesGoOn at more old new
pieces_go_on at more old new = record {
  fed_more = λ now stands. fed_stands at more old now stands;
  head = λ head stands step. head_stands at old new head stands step;
  piece = λ begun text stands step.
      piece_stands at new old.bytes begun text stands.1 stands.2 (in_body old (begun.head.length - length begun.given) (steps.Piece text) new stands.0 step);
  whole = λ begun stands step. whole_stands at old new begun stands step;
  waits = λ now clean stands step. waits_at at old new now clean stands step;
  refused = λ cause stands step. refused_at at old new cause stands step;
}

again : (bytes : List ℕ) (cause : WireFault) (step : Step) (after : WireState) → IsHeadFront bytes (Faults cause)
    → HeadSteps bytes step after → step ≡ steps.Refused cause
again bytes cause (steps.Head head) after front next =
    let wrong = head_front_is_one bytes (Faults cause) (Heads head after.bytes) front next.0 in cc
again bytes cause (steps.Piece text) after front next = absurd next
again bytes cause steps.Whole after front next = absurd next
again bytes cause (steps.Need clean) after front next =
    let wrong = head_front_is_one bytes (Faults cause) Needs front next.0 in cc
again bytes cause (steps.Refused other) after front next =
    let same = head_front_is_one bytes (Faults other) (Faults cause) next.0 front in
    let equal : other ≡ cause = cc in ap (λ c. steps.Refused c) equal

refuses_at : (left : Option ℕ) (bytes : List ℕ) (new : WireState) (more : List ℕ) (cause : WireFault) (step : Step) (after : WireState)
    → StepsAt left bytes (steps.Refused cause) new → Steps (wire_fed new more) step after → step ≡ steps.Refused cause
refuses_at (Some left) bytes new more cause step after refused next = absurd refused
refuses_at None bytes new more cause step after (front, is) next =
    let here : IsHeadFront (behind_line_ends bytes) (Faults cause) = subst (λ message. AtMessage message (Faults cause)) (sym (passed_again bytes)) front in
    again (behind_line_ends bytes ++ more) cause step after (faults_stay (behind_line_ends bytes) more cause here)
    (subst (λ wire. Steps (wire_fed wire more) step after) is next)

pub refuses_again : (old new : WireState) (more : List ℕ) → RefusesAgain old new more
refuses_again old new more cause step after refused next =
    refuses_at old.left old.bytes new more cause step after refused next
