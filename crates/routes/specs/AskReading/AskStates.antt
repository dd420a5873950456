-- How far a request was read whose body comes in pieces, and what is kept of it.
use Rattle.std.specs.Prelude.{◌≡◌, ◌≤◌, ◌+◌, ℕ, List, [], length, Result, Ok, Err, IsTrue}
use Rattle.http_wire.specs.declared.messages.HttpHead.{HttpHead}
use Rattle.trec_formats.specs.RunFormat.RunStates.{IsAfter}
use Rattle.trec_formats.specs.Names.{is_name}
use Rattle.rulebook.specs.Spelling.{is_number}
use Rattle.routes.specs.declared.ask_reader.Body.{Body}
use Rattle.routes.specs.declared.ask_reader.Body.TheVariants.{Passed, Run, Gathered}
use Rattle.routes.specs.declared.ask_reader.Opened.{Opened}
use Rattle.routes.specs.declared.ask_reader.AskProgress.{AskProgress}
use Rattle.routes.specs.declared.ask_reader.AskProgress.TheVariants.{Reads, Faulty, Failed}
use Rattle.routes.specs.declared.faults.RouteFault.{RouteFault}
use Rattle.routes.specs.declared.keys.KeyRow.{KeyRow}
use Rattle.routes.specs.declared.route_table.Method.TheVariants.{Get}
use Rattle.routes.specs.declared.route_table.Question.TheVariants as question
use Rattle.routes.specs.declared.route_table.Route.{Route}
use Rattle.routes.specs.Keys.{without_key}
use Rattle.routes.specs.Limits.{most_body}
use Rattle.routes.specs.Openings.{Opening, opening_of}
use Rattle.routes.specs.PathTable.RouteTable.{IsRow, fits, may_ask, parameter}

-- a body may be kept in this way at this row: that of a GET, which asks a query, isn't looked at
abbrev pub SuitsBody : Route → Body → Type 0
SuitsBody place Passed = place.method ≡ Get
SuitsBody place (Run reader) = place.question ≡ question.Submit
SuitsBody place (Gathered bytes) = Unit {0}

-- what is kept of a body that may be this text
abbrev pub KeepsBody : List ℕ → Body → Type 0
KeepsBody text Passed = Unit {0}
KeepsBody text (Run reader) = IsAfter text reader.value
KeepsBody text (Gathered bytes) = bytes.items ≡ text

-- there is such a text of at most so many bytes, and no more were fed
abbrev pub IsFew : ℕ → Body → Type 0
IsFew most Passed = Unit {0}
IsFew most (Run reader) = (reader.value.fed ≤ most) × ((text : List ℕ) × (length text ≤ most) × IsAfter text reader.value)
IsFew most (Gathered bytes) = length bytes.items ≤ most

-- a body may go on with so many bytes
abbrev pub BodyHasRoom : Body → ℕ → Type 0
BodyHasRoom Passed more = Unit {0}
BodyHasRoom (Run reader) more = reader.value.fed + more ≤ 268435456
BodyHasRoom (Gathered bytes) more = Unit {0}

pub record BeginsBody (place : Route) (body : Body) : Type 0 where
  pub suits : SuitsBody place body
  pub kept : KeepsBody [] body
  pub few : IsFew 0 body

-- what is asked at this opening, with a body that may be this text so far
pub record IsAskOpened (opening : Opening) (path body : List ℕ) (opened : Opened) : Type 0 where
  pub who : opened.who ≡ without_key opening.caller
  pub number : opened.number ≡ opening.number
  pub place : opened.place ≡ opening.place
  pub text : opened.text ≡ parameter path
  pub body_is : KeepsBody body opened.body

-- what is read behind it may be asked
pub record IsAddressable (opened : Opened) : Type 0 where
  pub named : IsTrue (is_name opened.who.name)
  pub number : IsTrue (is_number opened.number)
  pub role : IsTrue (may_ask opened.who.role opened.place.askers)
  pub known : IsRow opened.place
  pub fitting : IsTrue (fits opened.place.parameter opened.text)
  pub suits : SuitsBody opened.place opened.body

-- how far a request was read with this opening or fault of its head, and this text of its body
abbrev pub IsAskAt : Result Opening RouteFault → List ℕ → List ℕ → AskProgress → Type 0
IsAskAt opening path body (Reads opened) = (found : Opening) × (opening ≡ Ok found) × IsAskOpened found path body opened
IsAskAt opening path body (Faulty cause) = opening ≡ Err cause
IsAskAt opening path body Failed = ⊥

-- a request may go on with so many bytes
abbrev pub MayGo : AskProgress → ℕ → Type 0
MayGo (Reads opened) more = BodyHasRoom opened.body more
MayGo (Faulty cause) more = Unit {0}
MayGo Failed more = Unit {0}

-- what is kept where so many bytes were fed
abbrev pub IsAskHeld : ℕ → AskProgress → Type 0
IsAskHeld fed (Reads opened) = IsAddressable opened × IsFew fed opened.body
IsAskHeld fed (Faulty cause) = Unit {0}
IsAskHeld fed Failed = Unit {0}

pub record IsSound (fed : ℕ) (progress : AskProgress) : Type 0 where
  pub few : fed ≤ most_body
  pub held : IsAskHeld fed progress

-- how many bytes of the body were fed to a reader, and what it keeps
pub record AskFed : Type 0 where
  pub fed : ℕ
  pub progress : AskProgress

-- a reader that was made of this head and fed what may be this text
abbrev pub IsAsking : HttpHead → List KeyRow → List ℕ → AskFed → Type 0
IsAsking head keys body reader = IsAskAt (opening_of head.method head.path head.fields keys) head.path body reader.progress

-- there was no memory for what had to be kept
abbrev pub HasAskFailed : AskFed → Type 0
HasAskFailed reader = reader.progress ≡ Failed
