-- A request read piece by piece.
use Rattle.std.proofs.Common.{◌≡◌, ◌≤◌, ◌+◌, ◌∙◌, ℕ, List, [], length, refl, sym, subst, arith, Ok, Err, Result}
use Rattle.std.specs.Prelude.{IsTrue}
use Rattle.http_wire.specs.declared.messages.HttpHead.{HttpHead}
use Rattle.http_wire.specs.Messages.{request_with}
use Rattle.trec_formats.specs.declared.faults.FormatEnd.{FormatEnd}
use Rattle.trec_formats.specs.declared.faults.FormatEnd.TheVariants as ends
use Rattle.trec_formats.specs.Faults.{OfFault as OfFormat}
use Rattle.trec_formats.specs.RunFormat.Lists.{IsRankedRunFault}
use Rattle.trec_formats.specs.RunFormat.RunStates.{IsAfter, RunFed}
use Rattle.rulebook.specs.declared.ask.Ask.{Ask}
use Rattle.rulebook.specs.Requests.Limits.{max_moment}
use Rattle.rulebook.specs.Histories.Legal.{is_well_addressed}
use Rattle.routes.specs.declared.ask_reader.Body.{Body}
use Rattle.routes.specs.declared.ask_reader.Body.TheVariants.{Passed, Run, Gathered}
use Rattle.routes.specs.declared.ask_reader.Opened.{Opened}
use Rattle.routes.specs.declared.ask_reader.AskProgress.{AskProgress}
use Rattle.routes.specs.declared.ask_reader.AskProgress.TheVariants.{Reads as Going, Faulty, Failed}
use Rattle.routes.specs.declared.faults.RouteFault.{RouteFault}
use Rattle.routes.specs.declared.faults.RouteFault.TheVariants as faults
use Rattle.routes.specs.declared.keys.KeyRow.{KeyRow}
use Rattle.routes.specs.declared.route_table.Method.TheVariants.{Get}
use Rattle.routes.specs.declared.route_table.Question.TheVariants as question
use Rattle.routes.specs.declared.route_table.Route.{Route}
use Rattle.routes.specs.AskReading.AskStates.{BodyHasRoom, IsAddressable, IsAskHeld, IsAskOpened, IsFew, KeepsBody, MayGo}
use Rattle.routes.specs.Asks.{Asked, HasSoundTopics, Reads, ReadsBehind}
use Rattle.routes.specs.Faults.{IsRead, OfRouteFault, fault_of}
use Rattle.routes.specs.Limits.{most_body}
use Rattle.routes.specs.Openings.{Opening, opening_of}
use Rattle.routes.specs.PathTable.RouteTable.{Asks, IsRow, parameter}
use Rattle.routes.proofs.PathTable.RowAsks.{agrees}
use Rattle.routes.proofs.Requests.AddressedRequests.{addressed_at}

few_more : (a b : ℕ) (body : Body) → a ≤ b → IsFew a body → IsFew b body
few_more a b Passed most few = tt
few_more a b (Run reader) most (fed, (text, short, after)) =
    (omega (arith, most, fed), (text, omega (arith, most, short), after))
few_more a b (Gathered bytes) most few = omega (arith, most, few)

has_room : (fed more : ℕ) (body : Body) → fed + more ≤ most_body → IsFew fed body → BodyHasRoom body more
has_room fed more Passed room few = tt
has_room fed more (Run reader) room few = omega (arith, room, few.0)
has_room fed more (Gathered bytes) room few = tt

-- what was held has room for more
pub may_go : (fed more : ℕ) (progress : AskProgress) → fed + more ≤ most_body → IsAskHeld fed progress → MayGo progress more
may_go fed more (Going opened) room held = has_room fed more opened.body room held.1
may_go fed more (Faulty cause) room held = tt
may_go fed more Failed room held = tt

pub few_held : (fed : ℕ) (opened : Opened) → fed ≤ most_body → IsAskHeld fed (Going opened) → IsFew most_body opened.body
few_held fed opened most held = few_more fed most_body opened.body most held.1

some_body : (body : Body) → IsFew most_body body → (text : List ℕ) × (length text ≤ most_body) × KeepsBody text body
some_body Passed few = ([], omega arith, tt)
some_body (Run reader) (fed, (text, short, after)) = (text, short, after)
some_body (Gathered bytes) few = (bytes.items, few, refl)

-- the fault of a run
pub run_fault : (reader : RunFed) (end : FormatEnd) (run body : List ℕ)
    → OfFormat end (λ at. (text : List ℕ) → IsAfter text reader → IsRankedRunFault text at) → IsAfter body reader
    → OfRouteFault (fault_of end) (λ told. Asks question.Submit run body (Err told))
run_fault reader (ends.Fault at) run body faulty after = (at, refl, faulty body after)
run_fault reader ends.Memory run body faulty after = tt

fault_passes : (cause : RouteFault) (P Q : RouteFault → Type 0) → ((told : RouteFault) → P told → Q told)
    → OfRouteFault cause P → OfRouteFault cause Q
fault_passes faults.Memory P Q goes w = tt
fault_passes faults.Route P Q goes w = goes faults.Route w
fault_passes faults.Method P Q goes w = goes faults.Method w
fault_passes faults.Key P Q goes w = goes faults.Key w
fault_passes faults.Role P Q goes w = goes faults.Role w
fault_passes faults.Number P Q goes w = goes faults.Number w
fault_passes faults.Body P Q goes w = goes faults.Body w
fault_passes (faults.Format at) P Q goes w = goes (faults.Format at) w

-- the body of a GET isn't looked at
pub query_asked : (place : Route) (text body other : List ℕ) (result : Result Ask RouteFault)
    → IsRow place → place.method ≡ Get → IsRead (Asks place.question text body) result → IsRead (Asks place.question text other) result
query_asked place text body other (Ok ask) known is read = (agrees place known).unread is text body other (Ok ask) read
query_asked place text body other (Err cause) known is read =
    fault_passes cause (λ told. Asks place.question text body (Err told)) (λ told. Asks place.question text other (Err told))
    (λ told asks. (agrees place known).unread is text body other (Err told) asks) read

-- what is asked at an opening
pub asked_there : (opening : Opening) (path body text : List ℕ) (opened : Opened) (result : Result Ask RouteFault)
    → text ≡ opened.text → IsAskOpened opening path body opened
    → ((told : List ℕ) → KeepsBody told opened.body → IsRead (Asks opened.place.question text told) result)
    → IsRead (Asks opening.place.question (parameter path) body) result
asked_there opening path body text opened result text_is is asks =
    subst (λ place. IsRead (Asks place.question (parameter path) body) result) is.place
    (subst (λ t. IsRead (Asks opened.place.question t body) result) (text_is ∙ is.text) (asks body is.body_is))

pub addressed_there : (opened : Opened) (text : List ℕ) (ask : Ask) → text ≡ opened.text → IsAddressable opened
    → IsFew most_body opened.body
    → ((told : List ℕ) → KeepsBody told opened.body → Asks opened.place.question text told (Ok ask))
    → (opened.place.question ≡ question.Topics → HasSoundTopics ask)
    → (moment : ℕ) → moment ≤ max_moment → IsTrue (is_well_addressed opened.who opened.number ask moment)
addressed_there opened text ask text_is is few asks sound moment latest =
    let (body, short, kept) = some_body opened.body few in
    let there = subst (λ t. Asks opened.place.question t body (Ok ask)) text_is (asks body kept) in
    addressed_at opened.place opened.who opened.number opened.text body ask moment is.known is.named is.number is.role is.fitting there sound short latest

of_itself : (cause : RouteFault) (P : RouteFault → Type 0) → P cause → OfRouteFault cause P
of_itself faults.Memory P w = tt
of_itself faults.Route P w = w
of_itself faults.Method P w = w
of_itself faults.Key P w = w
of_itself faults.Role P w = w
of_itself faults.Number P w = w
of_itself faults.Body P w = w
of_itself (faults.Format at) P w = w

-- a fault of the head is what is read
pub faulty_read : (head : HttpHead) (keys : List KeyRow) (body : List ℕ) (cause : RouteFault)
    → opening_of head.method head.path head.fields keys ≡ Err cause
    → OfRouteFault cause (λ told. Reads (request_with head body) keys (Err told))
faulty_read head keys body cause is =
    let same : ReadsBehind (Err cause) (request_with head body) (Err cause) = refl in
    of_itself cause (λ told. Reads (request_with head body) keys (Err told))
    (subst (λ opening. ReadsBehind opening (request_with head body) (Err cause)) (sym is) same)

-- what is read behind an opening is what is read
pub opened_read : (head : HttpHead) (keys : List KeyRow) (body : List ℕ) (found : Opening) (result : Result Asked RouteFault)
    → opening_of head.method head.path head.fields keys ≡ Ok found
    → IsRead (ReadsBehind (Ok found) (request_with head body)) result → IsRead (Reads (request_with head body) keys) result
opened_read head keys body found result is read =
    subst (λ opening. IsRead (ReadsBehind opening (request_with head body)) result) (sym is) read
