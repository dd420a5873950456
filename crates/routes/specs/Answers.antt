-- The text of an answer.
use Rattle.std.specs.Prelude.{◌≡◌, ℕ, Bool, true, false, not, List, [], ◌∷◌, ◌++◌, codes, decimal, if◌then◌else◌}
use Rattle.http_wire.specs.Answers.{answer_text}
use Rattle.http_wire.specs.declared.messages.WireFault.{WireFault}
use Rattle.http_wire.specs.declared.messages.WireFault.TheVariants as wire
use Rattle.trec_formats.specs.declared.faults.FormatFault.{FormatFault}
use Rattle.trec_formats.specs.declared.faults.Kind.{Kind}
use Rattle.trec_formats.specs.declared.faults.Kind.TheVariants as kind
use Rattle.trec_formats.specs.FaultNames.{cause_name, kind_name}
use Rattle.rulebook.specs.declared.rules.Phase.{Phase}
use Rattle.rulebook.specs.declared.rules.Phase.TheVariants as phase
use Rattle.rulebook.specs.declared.reply.Quantity.{Quantity}
use Rattle.rulebook.specs.declared.reply.Quantity.TheVariants as quantity
use Rattle.rulebook.specs.declared.reply.Refusal.{Refusal}
use Rattle.rulebook.specs.declared.reply.Refusal.TheVariants as refusal
use Rattle.rulebook.specs.declared.reply.Reply.{Reply}
use Rattle.rulebook.specs.declared.reply.Reply.TheVariants as reply
use Rattle.rulebook.specs.Requests.PlainReplies.{is_plain_reply, is_short_reply}
use Rattle.routes.specs.declared.faults.RouteFault.{RouteFault}
use Rattle.routes.specs.declared.faults.RouteFault.TheVariants as route
use Rattle.routes.specs.declared.answers.Answered.{Answered}
use Rattle.routes.specs.declared.answers.Answered.TheVariants as answered
use Rattle.routes.specs.Json.Objects.{Member, in_quotes, listed, object, quoted}

-- Statuses

abbrev pub refusal_status : Refusal → ℕ
refusal_status refusal.UnknownTopic = 404
refusal_status refusal.UnknownRun = 404
refusal_status refusal.UnknownLease = 404
refusal_status refusal.NotYours = 403
refusal_status (refusal.WrongPhase p) = 409
refusal_status refusal.TagTaken = 409
refusal_status refusal.TopicsFixed = 409
refusal_status refusal.NothingLeft = 409
refusal_status (refusal.TooMany live) = 429
refusal_status (refusal.Expired until) = 409
refusal_status refusal.Ended = 409
refusal_status refusal.GradeRange = 400
refusal_status refusal.NotLabelled = 409
refusal_status refusal.Withdrawn = 409
refusal_status (refusal.Reused entry) = 409
refusal_status (refusal.Limit which) = 409
refusal_status refusal.UnknownRelease = 404
refusal_status (refusal.LineTopic line) = 400

-- the status of a reply to a query, or to a command, that is no refusal
abbrev pub success_status : Bool → ℕ
success_status query = if query then 200 else 201

abbrev pub reply_status : Reply → Bool → ℕ
reply_status reply.Done query = success_status query
reply_status (reply.Topics topics) query = success_status query
reply_status (reply.Submitted run topics lines) query = success_status query
reply_status (reply.Leased lease topic doc until title) query = success_status query
reply_status (reply.Graded topic doc grade) query = success_status query
reply_status (reply.Pool topic docs) query = success_status query
reply_status (reply.Page text) query = success_status query
reply_status (reply.Refused r) query = refusal_status r

abbrev pub route_status : RouteFault → ℕ
route_status route.Route = 404
route_status route.Method = 405
route_status route.Key = 401
route_status route.Role = 403
route_status route.Number = 400
route_status route.Body = 400
route_status (route.Format at) = 400
route_status route.Memory = 507

abbrev pub wire_status : WireFault → ℕ
wire_status wire.Head = 400
wire_status wire.Length = 411
wire_status wire.Body = 413
wire_status wire.HeadSize = 431
wire_status wire.Coding = 501

abbrev pub status_of : Answered → ℕ
status_of (answered.Reply r query) = reply_status r query
status_of (answered.Route cause) = route_status cause
status_of (answered.Wire cause) = wire_status cause
status_of answered.DiskFault = 503
status_of answered.Memory = 507

-- Bodies: JSON objects whose names are in the order of their bytes, and pages

abbrev pub phase_name : Phase → List ℕ
phase_name phase.Collecting = codes "collecting"
phase_name phase.Judging = codes "judging"
phase_name phase.Published = codes "published"

abbrev pub quantity_name : Quantity → List ℕ
quantity_name quantity.Topics = codes "topics"
quantity_name quantity.Runs = codes "runs"
quantity_name quantity.Lines = codes "lines"
quantity_name quantity.Docnos = codes "docnos"
quantity_name quantity.Entries = codes "entries"

-- the member that names a refusal
abbrev pub refused : List ℕ → Member
refused name = (codes "refusal", in_quotes name)

abbrev pub refusal_members : Refusal → List Member
refusal_members refusal.UnknownTopic = refused (codes "unknown-topic") ∷ []
refusal_members refusal.UnknownRun = refused (codes "unknown-run") ∷ []
refusal_members refusal.UnknownLease = refused (codes "unknown-lease") ∷ []
refusal_members refusal.NotYours = refused (codes "not-yours") ∷ []
refusal_members (refusal.WrongPhase p) = (codes "phase", in_quotes (phase_name p)) ∷ refused (codes "wrong-phase") ∷ []
refusal_members refusal.TagTaken = refused (codes "tag-taken") ∷ []
refusal_members refusal.TopicsFixed = refused (codes "topics-fixed") ∷ []
refusal_members refusal.NothingLeft = refused (codes "nothing-left") ∷ []
refusal_members (refusal.TooMany live) = (codes "live", decimal live) ∷ refused (codes "too-many") ∷ []
refusal_members (refusal.Expired until) = refused (codes "expired") ∷ (codes "until", decimal until) ∷ []
refusal_members refusal.Ended = refused (codes "ended") ∷ []
refusal_members refusal.GradeRange = refused (codes "grade-range") ∷ []
refusal_members refusal.NotLabelled = refused (codes "not-labelled") ∷ []
refusal_members refusal.Withdrawn = refused (codes "withdrawn") ∷ []
refusal_members (refusal.Reused entry) = (codes "entry", decimal entry) ∷ refused (codes "reused") ∷ []
refusal_members (refusal.Limit which) = refused (codes "limit") ∷ (codes "which", in_quotes (quantity_name which)) ∷ []
refusal_members refusal.UnknownRelease = refused (codes "unknown-release") ∷ []
refusal_members (refusal.LineTopic line) = (codes "line", decimal line) ∷ refused (codes "line-topic") ∷ []

-- A page is its own text.
abbrev pub reply_body : Reply → List ℕ
reply_body reply.Done = object ((codes "done", codes "true") ∷ [])
reply_body (reply.Topics topics) = object ((codes "topics", decimal topics) ∷ [])
reply_body (reply.Submitted run topics lines) =
    object ((codes "lines", decimal lines) ∷ (codes "run", in_quotes run) ∷ (codes "topics", decimal topics) ∷ [])
reply_body (reply.Leased lease topic doc until title) =
    object ((codes "doc", quoted doc) ∷ (codes "lease", decimal lease) ∷ (codes "title", quoted title)
    ∷ (codes "topic", in_quotes topic) ∷ (codes "until", decimal until) ∷ [])
reply_body (reply.Graded topic doc grade) =
    object ((codes "doc", quoted doc) ∷ (codes "grade", decimal grade) ∷ (codes "topic", in_quotes topic) ∷ [])
reply_body (reply.Pool topic docs) = object ((codes "docs", listed docs) ∷ (codes "topic", in_quotes topic) ∷ [])
reply_body (reply.Page page) = page
reply_body (reply.Refused r) = object (refusal_members r)

-- what the kind of a format fault tells beside its name
abbrev pub kind_members : Kind → List Member
kind_members kind.Fields = []
kind_members kind.Topic = []
kind_members kind.Docno = []
kind_members (kind.Score cause) = (codes "cause", in_quotes (cause_name cause)) ∷ []
kind_members kind.Grade = []
kind_members kind.Empty = []
kind_members kind.TooLong = []
kind_members kind.Tag = []
kind_members (kind.Twice first) = (codes "first", decimal first) ∷ []

abbrev pub format_members : FormatFault → List Member
format_members at =
    kind_members at.kind ++ ((codes "kind", in_quotes (kind_name at.kind)) ∷ (codes "line", decimal at.line) ∷ refused (codes "format") ∷ [])

-- the member that names a fault
abbrev pub faulty : List ℕ → Member
faulty name = (codes "fault", in_quotes name)

abbrev pub route_members : RouteFault → List Member
route_members route.Route = faulty (codes "route") ∷ []
route_members route.Method = faulty (codes "method") ∷ []
route_members route.Key = faulty (codes "key") ∷ []
route_members route.Role = faulty (codes "role") ∷ []
route_members route.Number = faulty (codes "number") ∷ []
route_members route.Body = faulty (codes "body") ∷ []
route_members (route.Format at) = format_members at
route_members route.Memory = faulty (codes "memory") ∷ []

abbrev pub wire_members : WireFault → List Member
wire_members wire.Head = faulty (codes "head") ∷ []
wire_members wire.Length = faulty (codes "length") ∷ []
wire_members wire.Body = faulty (codes "body") ∷ []
wire_members wire.HeadSize = faulty (codes "head-size") ∷ []
wire_members wire.Coding = faulty (codes "coding") ∷ []

abbrev pub body_of : Answered → List ℕ
body_of (answered.Reply r query) = reply_body r
body_of (answered.Route cause) = object (route_members cause)
body_of (answered.Wire cause) = object (wire_members cause)
body_of answered.DiskFault = object (faulty (codes "disk") ∷ [])
body_of answered.Memory = object (faulty (codes "memory") ∷ [])

abbrev pub is_page : Reply → Bool
is_page reply.Done = false
is_page (reply.Topics topics) = false
is_page (reply.Submitted run topics lines) = false
is_page (reply.Leased lease topic doc until title) = false
is_page (reply.Graded topic doc grade) = false
is_page (reply.Pool topic docs) = false
is_page (reply.Page text) = true
is_page (reply.Refused r) = false

-- a page is plain text, and each other body is JSON
abbrev pub is_json : Answered → Bool
is_json (answered.Reply r query) = not (is_page r)
is_json (answered.Route cause) = true
is_json (answered.Wire cause) = true
is_json answered.DiskFault = true
is_json answered.Memory = true

-- the whole answer; `close` says that the connection ends behind it
unfoldable pub text_of : Answered → Bool → List ℕ
text_of a close = answer_text (status_of a) (is_json a) close (body_of a)

-- the names of a reply are names, its docnos are docnos, and a title has at most 1,000 bytes of printable ASCII
abbrev pub is_plain_answer : Answered → Bool
is_plain_answer (answered.Reply r query) = is_plain_reply r
is_plain_answer (answered.Route cause) = true
is_plain_answer (answered.Wire cause) = true
is_plain_answer answered.DiskFault = true
is_plain_answer answered.Memory = true

-- the reply of an accepted command, a refusal or a fault
abbrev pub is_short : Answered → Bool
is_short (answered.Reply r query) = is_short_reply r
is_short (answered.Route cause) = true
is_short (answered.Wire cause) = true
is_short answered.DiskFault = true
is_short answered.Memory = true

-- an answer whose body is the text of a page: it isn't JSON, and may be long
pub record IsPage (a : Answered) (page : List ℕ) : Type 0 where
  pub is_text : is_json a ≡ false
  pub body_is : body_of a ≡ page
  pub is_long : is_short a ≡ false
