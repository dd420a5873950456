-- What a request asks, and who asks it.
use Rattle.std.specs.Prelude.{◌≡◌, ℕ, List, Option, Result, Ok, Err}
use Rattle.http_wire.specs.declared.messages.HttpRequest.{HttpRequest}
use Rattle.trec_formats.specs.TopicsFormat.SoundTopics.{AreSoundTopics}
use Rattle.rulebook.specs.declared.ask.Ask.{Ask}
use Rattle.rulebook.specs.declared.ask.Ask.TheVariants.{Act}
use Rattle.rulebook.specs.declared.ask.Command.TheVariants as command
use Rattle.rulebook.specs.declared.rules.Caller.{Caller}
use Rattle.routes.specs.declared.faults.RouteFault.{RouteFault}
use Rattle.routes.specs.declared.keys.KeyRow.{KeyRow}
use Rattle.routes.specs.Keys.{without_key}
use Rattle.routes.specs.Openings.{Opening, opening_of}
use Rattle.routes.specs.PathTable.RouteTable.{Asks, parameter}

-- a caller, the number of its request, and what it asks
abbrev pub Asked : Type 0
Asked = Caller × Option ℕ × Ask

abbrev pub asked_at : Opening → Ask → Asked
asked_at opening ask = (without_key opening.caller, opening.number, ask)

-- what is read where this opening comes before the body
abbrev pub ReadsBehind : Result Opening RouteFault → HttpRequest → Result Asked RouteFault → Type 0
ReadsBehind (Err cause) request result = result ≡ Err cause
ReadsBehind (Ok opening) request (Ok asked) = (ask : Ask) × Asks opening.place.question (parameter request.path) request.body (Ok ask)
    × (asked ≡ asked_at opening ask)
ReadsBehind (Ok opening) request (Err cause) = Asks opening.place.question (parameter request.path) request.body (Err cause)

-- what a request is read as: who asks, with which number, and what; or its first fault
abbrev pub Reads : HttpRequest → List KeyRow → Result Asked RouteFault → Type 0
Reads request keys result = ReadsBehind (opening_of request.method request.path request.fields keys) request result

-- topics that are asked for are within the limits of their format, and no two have one id
abbrev pub HasSoundTopics : Ask → Type 0
HasSoundTopics (Act (command.Topics topics)) = AreSoundTopics topics
HasSoundTopics _ = Unit {0}
