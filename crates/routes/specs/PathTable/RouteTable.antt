-- The table of the paths, and what is asked at each of its rows.
use Rattle.std.specs.Prelude.{◌≡◌, ◌⊎◌, ℕ, Bool, true, ◌||◌, ◌==◌, ◌&&◌, List, [], ◌∷◌, Result, Ok, Err, codes, drop, length, nat_le, option_and_then, if◌then◌else◌}
use Rattle.std.specs.Option.{option_map}
use Rattle.std.specs.List.{before_first, after_first}
use Rattle.std.specs.Str.Parse.{digits_value}
use Rattle.decimal_rank.specs.Decimals.DecimalText.{are_digits}
use Rattle.http_wire.specs.Heads.{is_filled}
use Rattle.trec_formats.specs.Names.{is_name}
use Rattle.trec_formats.specs.RunFormat.Lists.{IsRankedRun, IsRankedRunFault}
use Rattle.trec_formats.specs.TopicsFormat.Topics.{IsTopics, IsTopicsFault}
use Rattle.trec_formats.specs.declared.faults.FormatFault.{FormatFault}
use Rattle.trec_formats.specs.declared.runs.lists.TopicList.{TopicList}
use Rattle.trec_formats.specs.declared.topics.Topic.{Topic}
use Rattle.rulebook.specs.declared.ask.Ask.{Ask}
use Rattle.rulebook.specs.declared.ask.Ask.TheVariants.{Act, See}
use Rattle.rulebook.specs.declared.ask.Command.TheVariants as command
use Rattle.rulebook.specs.declared.ask.Query.TheVariants as query
use Rattle.rulebook.specs.declared.rules.Role.{Role}
use Rattle.rulebook.specs.Requests.Roles.{is_organiser, is_group, is_assessor}
use Rattle.routes.specs.Bytes.{slash}
use Rattle.routes.specs.Faults.{or_fault}
use Rattle.routes.specs.Json.Bodies.{json_of, Judgement, grade_in, judgement_in}
use Rattle.routes.specs.Limits.{most_path_digits, most_path_number}
use Rattle.routes.specs.declared.faults.RouteFault.{RouteFault}
use Rattle.routes.specs.declared.faults.RouteFault.TheVariants as faults
use Rattle.routes.specs.declared.route_table.Route.{Route}
use Rattle.routes.specs.declared.route_table.Method.{Method}
use Rattle.routes.specs.declared.route_table.Method.TheVariants.{Get, Post}
use Rattle.routes.specs.declared.route_table.Parameter.{Parameter}
use Rattle.routes.specs.declared.route_table.Parameter.TheVariants.{Name, Nothing, Number}
use Rattle.routes.specs.declared.route_table.Askers.{Askers}
use Rattle.routes.specs.declared.route_table.Askers.TheVariants.{Assessors, Everyone, Groups, NotAssessors, NotGroups, Organisers}
use Rattle.routes.specs.declared.route_table.Question.{Question}
use Rattle.routes.specs.declared.route_table.Question.TheVariants as question

abbrev pub route_at : Method → Parameter → Askers → Question → Route
route_at method parameter askers asked = record { method = method; parameter = parameter; askers = askers; question = asked }

-- each path of the table, in its order, with its row
abbrev pub rows : List (List ℕ × Route)
rows =
    (codes "/topics", route_at Post Nothing Organisers question.Topics)
    ∷ (codes "/runs/{run}", route_at Post Name Groups question.Submit)
    ∷ (codes "/open", route_at Post Nothing Organisers question.Open)
    ∷ (codes "/topics/{topic}/lease", route_at Post Name Assessors question.Lease)
    ∷ (codes "/leases/{lease}/grade", route_at Post Number Assessors question.Grade)
    ∷ (codes "/leases/{lease}/release", route_at Post Number Assessors question.Release)
    ∷ (codes "/topics/{topic}/amend", route_at Post Name Assessors question.Amend)
    ∷ (codes "/topics/{topic}/rule", route_at Post Name Organisers question.Rule)
    ∷ (codes "/runs/{run}/withdraw", route_at Post Name NotAssessors question.Withdraw)
    ∷ (codes "/publish", route_at Post Nothing Organisers question.Publish)
    ∷ (codes "/topics/{topic}/pool", route_at Get Name NotGroups question.Pool)
    ∷ (codes "/qrels", route_at Get Nothing Organisers question.Qrels)
    ∷ (codes "/runs/{run}/scores", route_at Get Name NotAssessors question.Scores)
    ∷ (codes "/table", route_at Get Nothing Organisers question.Table)
    ∷ (codes "/disagreements", route_at Get Nothing Organisers question.Disagreements)
    ∷ (codes "/progress", route_at Get Nothing Organisers question.Progress)
    ∷ (codes "/releases/{release}/qrels", route_at Get Number Everyone question.ReleaseQrels)
    ∷ (codes "/releases/{release}/scores", route_at Get Number Everyone question.ReleaseScores) ∷ []

-- the row is among these
abbrev pub Among : Route → List (List ℕ × Route) → Type 0
Among place [] = ⊥
Among place (row ∷ others) = (row.1 ≡ place) ⊎ Among place others

-- the row is one of the table's
unfoldable pub IsRow : Route → Type 0
IsRow place = Among place rows

abbrev pub is_slash : ℕ → Bool
is_slash b = b == slash

-- the second part of a path, where a row has its parameter
abbrev pub parameter : List ℕ → List ℕ
parameter path = before_first is_slash (after_first is_slash (drop 1 path))

-- the number of a lease or a release
abbrev pub is_path_number : List ℕ → Bool
is_path_number text = are_digits text && nat_le (length text) most_path_digits && nat_le (digits_value 10 text) most_path_number

-- whether a text may be the parameter of a row
abbrev pub fits : Parameter → List ℕ → Bool
fits Nothing text = true
fits Name text = is_name text
fits Number text = is_path_number text

abbrev pub method_name : Method → List ℕ
method_name Get = codes "GET"
method_name Post = codes "POST"

-- whether a role is among those that may ask
abbrev pub may_ask : Role → Askers → Bool
may_ask role Organisers = is_organiser role
may_ask role Groups = is_group role
may_ask role Assessors = is_assessor role
may_ask role NotGroups = is_organiser role || is_assessor role
may_ask role NotAssessors = is_group role || is_organiser role
may_ask role Everyone = true

-- What is asked at a row

-- the ask of an empty body
abbrev pub with_nothing : List ℕ → Ask → Result Ask RouteFault
with_nothing body ask = if is_filled body then Err faults.Body else Ok ask

-- the ask with the grade of a JSON body
abbrev pub with_body_grade : List ℕ → (ℕ → Ask) → Result Ask RouteFault
with_body_grade body ask = or_fault faults.Body (option_map ask (option_and_then grade_in (json_of body)))

-- the ask with the document and the grade of a JSON body
abbrev pub with_judgement : List ℕ → (Judgement → Ask) → Result Ask RouteFault
with_judgement body ask = or_fault faults.Body (option_map ask (option_and_then judgement_in (json_of body)))

-- the topics of a body
abbrev pub AsksTopics : List ℕ → Result Ask RouteFault → Type 0
AsksTopics body (Ok ask) = (topics : List Topic) × IsTopics body topics × (ask ≡ Act (command.Topics topics))
AsksTopics body (Err cause) = (at : FormatFault) × (cause ≡ faults.Format at) × IsTopicsFault body at

-- the ranked lists of a body
abbrev pub AsksSubmit : List ℕ → List ℕ → Result Ask RouteFault → Type 0
AsksSubmit run body (Ok ask) = (lists : List TopicList) × IsRankedRun body lists × (ask ≡ Act (command.Submit run lists))
AsksSubmit run body (Err cause) = (at : FormatFault) × (cause ≡ faults.Format at) × IsRankedRunFault body at

-- What is asked at a row, with this parameter of its path and this body, or what is wrong with the body. The body of a query isn't looked at.
abbrev pub Asks : Question → List ℕ → List ℕ → Result Ask RouteFault → Type 0
Asks question.Topics text body result = AsksTopics body result
Asks question.Submit run body result = AsksSubmit run body result
Asks question.Open text body result = result ≡ with_nothing body (Act command.Open)
Asks question.Lease topic body result = result ≡ with_nothing body (Act (command.Lease topic))
Asks question.Grade lease body result = result ≡ with_body_grade body (λ grade. Act (command.Grade (digits_value 10 lease) grade))
Asks question.Release lease body result = result ≡ with_nothing body (Act (command.Release (digits_value 10 lease)))
Asks question.Amend topic body result = result ≡ with_judgement body (λ given. Act (command.Amend topic given.doc given.grade))
Asks question.Rule topic body result = result ≡ with_judgement body (λ given. Act (command.Rule topic given.doc given.grade))
Asks question.Withdraw run body result = result ≡ with_nothing body (Act (command.Withdraw run))
Asks question.Publish text body result = result ≡ with_nothing body (Act command.Publish)
Asks question.Pool topic body result = result ≡ Ok (See (query.Pool topic))
Asks question.Qrels text body result = result ≡ Ok (See query.Qrels)
Asks question.Scores run body result = result ≡ Ok (See (query.Scores run))
Asks question.Table text body result = result ≡ Ok (See query.Table)
Asks question.Disagreements text body result = result ≡ Ok (See query.Disagreements)
Asks question.Progress text body result = result ≡ Ok (See query.Progress)
Asks question.ReleaseQrels release body result = result ≡ Ok (See (query.ReleaseQrels (digits_value 10 release)))
Asks question.ReleaseScores release body result = result ≡ Ok (See (query.ReleaseScores (digits_value 10 release)))
