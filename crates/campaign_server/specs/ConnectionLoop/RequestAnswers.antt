-- One request's turn: its moment, its answer, and the text that is written.
use Rattle.std.specs.Prelude.{◌≡◌, ℕ, Bool, false, List, Result, Ok, Err, OnOk, OnErr}
use Rattle.std.specs.Io.KnownBytes.{Appends}
use Rattle.decimal_rank.specs.Outputs.KnownBytes.{AppendsPart}
use Rattle.routes.specs.declared.answers.Answered.{Answered}
use Rattle.routes.specs.declared.answers.Answered.TheVariants as answered
use Rattle.routes.specs.declared.faults.RouteFault.{RouteFault}
use Rattle.routes.specs.declared.faults.RouteFault.TheVariants as faults
use Rattle.routes.specs.declared.keys.KeyRow.{KeyRow}
use Rattle.routes.specs.Answers.{text_of}
use Rattle.routes.specs.Asks.{Asked}
use Rattle.rulebook.specs.declared.answer.Answer.{Answer}
use Rattle.rulebook.specs.declared.answer.Answer.TheVariants as answers
use Rattle.rulebook.specs.declared.ask.Addressed.{Addressed}
use Rattle.http_wire.specs.declared.messages.HttpRequest.{HttpRequest}
use Rattle.campaign_server.specs.ConnectionLoop.FedRequests.{IsReading}
use Rattle.campaign_server.specs.Conversations.Chains.{Answers, at_moment}
use Rattle.campaign_server.specs.Links.{LinkState, Ticks}
use Rattle.campaign_server.specs.Conversations.Stories.{is_query}

-- the reply to a query, which may take memory
abbrev pub is_of_query : Answered → Bool
is_of_query (answered.Reply reply query) = query
is_of_query (answered.Route cause) = false
is_of_query (answered.Wire cause) = false
is_of_query answered.DiskFault = false
is_of_query answered.Memory = false

-- what a teller's answer is told as
abbrev pub answered_as : Bool → Answer → Answered
answered_as query (answers.Reply reply) = answered.Reply reply query
answered_as query answers.DiskFault = answered.DiskFault
answered_as query answers.Memory = answered.Memory

-- what a fault is told as
abbrev pub fault_told : RouteFault → Answered
fault_told faults.Memory = answered.Memory
fault_told faults.Route = answered.Route faults.Route
fault_told faults.Method = answered.Route faults.Method
fault_told faults.Key = answered.Route faults.Key
fault_told faults.Role = answered.Route faults.Role
fault_told faults.Number = answered.Route faults.Number
fault_told faults.Body = answered.Route faults.Body
fault_told (faults.Format at) = answered.Route (faults.Format at)

module _ {S : Type 0} (tells : S → Addressed → Answer → S → Type 0) where
  -- what is answered where this was read: the teller's answer, or the fault
  abbrev pub IsAnswer : S → Result Asked RouteFault → ℕ → Answered → S → Type 0
  IsAnswer old (Ok asked) moment told new = (answer : Answer) × tells old (at_moment asked moment) answer new × (told ≡ answered_as (is_query asked.2) answer)
  IsAnswer old (Err cause) moment told new = (told ≡ fault_told cause) × (new ≡ old)

  -- A request with this reading was answered at the clock's next moment, and the text was written whole or, where a write failed, a part of it.
  pub record IsRequestAnswered {T E : Type 0} (old : S) (was : LinkState) (reading : Result Asked RouteFault)
      (close : Bool) (result : Result T E) (new : S) (is : LinkState) : Type 0 where
    pub moment : ℕ
    pub told : Answered
    pub ticks : Ticks was.clock is.clock moment
    pub answers : (keys : List KeyRow) (request : HttpRequest) → IsReading keys request reading close → Answers tells keys old request moment told new
    pub whole : OnOk result (Appends was.writing.written is.writing.written (text_of told close))
    pub part : OnErr result (AppendsPart was.writing.written is.writing.written (text_of told close))
