-- A request's turn: what was written is the text of what the teller answered, or of want of memory for a query's reply.
use Rattle.std.proofs.Common.{◌≡◌, ◌⊎◌, ℕ, List, Bool, true, false, refl, sym, ◌∙◌, subst, inl, inr}
use Rattle.std.specs.Prelude.{Result, Ok, Err, IsTrue, OnOk, OnErr}
use Rattle.std.specs.Io.KnownBytes.{Appends}
use Rattle.decimal_rank.specs.Outputs.KnownBytes.{AppendsPart}
use Rattle.http_wire.specs.declared.messages.HttpRequest.{HttpRequest}
use Rattle.routes.specs.declared.answers.Answered.{Answered}
use Rattle.routes.specs.declared.answers.Answered.TheVariants as answered
use Rattle.routes.specs.declared.faults.RouteFault.{RouteFault}
use Rattle.routes.specs.declared.faults.RouteFault.TheVariants as faults
use Rattle.routes.specs.declared.keys.KeyRow.{KeyRow}
use Rattle.routes.specs.Answers.{is_plain_answer, is_short, text_of}
use Rattle.routes.specs.Asks.{Asked}
use Rattle.rulebook.specs.declared.answer.Answer.{Answer}
use Rattle.rulebook.specs.declared.answer.Answer.TheVariants as answers
use Rattle.rulebook.specs.declared.ask.Addressed.{Addressed}
use Rattle.campaign_server.specs.ConnectionLoop.RequestAnswers.{IsAnswer, IsRequestAnswered, is_of_query, answered_as, fault_told}
use Rattle.campaign_server.specs.ConnectionLoop.FedRequests.{IsReading}
use Rattle.campaign_server.specs.Conversations.Chains.{Answers, at_moment}
use Rattle.campaign_server.specs.Links.{LinkState, Ticks}
use Rattle.campaign_server.specs.Conversations.Stories.{is_query}

module _ {S : Type 0} (tells : S → Addressed → Answer → S → Type 0) where
  -- what a teller answered is what the request is answered
  told_answers : (keys : List KeyRow) (request : HttpRequest) (asked : Asked) (close : Bool) (old : S) (moment : ℕ) (answer : Answer) (new : S)
      → IsReading keys request (Ok asked) close → tells old (at_moment asked moment) answer new
      → Answers tells keys old request moment (answered_as (is_query asked.2) answer) new
  told_answers keys request asked close old moment (answers.Reply reply) new reading told = (asked, reading.reads, refl, told)
  told_answers keys request asked close old moment answers.DiskFault new reading told = (asked, reading.reads, told)
  told_answers keys request asked close old moment answers.Memory new reading told = inr (asked, reading.reads, inl told)

  fault_answers : (keys : List KeyRow) (request : HttpRequest) (cause : RouteFault) (close : Bool) (old : S) (moment : ℕ) (new : S)
      → IsReading keys request (Err cause) close → new ≡ old → Answers tells keys old request moment (fault_told cause) new
  fault_answers keys request faults.Memory close old moment new reading same = inl same
  fault_answers keys request faults.Route close old moment new reading same = (reading.reads, same)
  fault_answers keys request faults.Method close old moment new reading same = (reading.reads, same)
  fault_answers keys request faults.Key close old moment new reading same = (reading.reads, same)
  fault_answers keys request faults.Role close old moment new reading same = (reading.reads, same)
  fault_answers keys request faults.Number close old moment new reading same = (reading.reads, same)
  fault_answers keys request faults.Body close old moment new reading same = (reading.reads, same)
  fault_answers keys request (faults.Format at) close old moment new reading same = (reading.reads, same)

  answers_of : (keys : List KeyRow) (request : HttpRequest) (reading : Result Asked RouteFault)
      (close : Bool) (old : S) (moment : ℕ) (told : Answered) (new : S)
      → IsReading keys request reading close → IsAnswer tells old reading moment told new → Answers tells keys old request moment told new
  answers_of keys request (Ok asked) close old moment told new reading (answer, tells_so, is) =
      subst (λ t. Answers tells keys old request moment t new) (sym is) (told_answers keys request asked close old moment answer new reading tells_so)
  answers_of keys request (Err cause) close old moment told new reading (is, same) =
      subst (λ t. Answers tells keys old request moment t new) (sym is) (fault_answers keys request cause close old moment new reading same)

  -- a reply to a query, for whose text there was no memory
  missed : (keys : List KeyRow) (request : HttpRequest) (old : S) (moment : ℕ) (told : Answered) (new : S)
      → Answers tells keys old request moment told new → is_of_query told ≡ true
      → Answers tells keys old request moment answered.Memory new
  missed keys request old moment (answered.Reply reply query) new (asked, reads, is, told) of_query = inr (asked, reads, inr (reply, sym is ∙ of_query, told))
  missed keys request old moment (answered.Route cause) new said of_query = let wrong : false ≡ true = of_query in cc
  missed keys request old moment (answered.Wire cause) new said of_query = absurd said
  missed keys request old moment answered.DiskFault new said of_query = let wrong : false ≡ true = of_query in cc
  missed keys request old moment answered.Memory new said of_query = said

  module _ {T E : Type 0} (old : S) (was mid is : LinkState) (reading : Result Asked RouteFault) (close : Bool)
      (moment : ℕ) (told : Answered) (text : List ℕ) (result : Result T E) (new : S)
      (ticks : Ticks was.clock mid.clock moment) (clock : is.clock ≡ mid.clock) (answer : IsAnswer tells old reading moment told new)
      (whole : OnOk result (Appends was.writing.written is.writing.written text))
      (part : OnErr result (AppendsPart was.writing.written is.writing.written text)) where
    with_text : (t : Answered) → text ≡ text_of t close
        → ((keys : List KeyRow) (request : HttpRequest) → IsReading keys request reading close → Answers tells keys old request moment t new)
        → IsRequestAnswered tells old was reading close result new is
    with_text t same says = record {
      moment = moment;
      told = t;
      ticks = subst (λ c. Ticks was.clock c moment) (sym clock) ticks;
      answers = says;
      whole = subst (λ x. OnOk result (Appends was.writing.written is.writing.written x)) same whole;
      part = subst (λ x. OnErr result (AppendsPart was.writing.written is.writing.written x)) same part;
    }

    pub turn_of : IsTrue (is_plain_answer told) → (is_of_query told ≡ false → IsTrue (is_short told))
        → (text ≡ text_of told close) ⊎ (text ≡ text_of answered.Memory close)
        → (IsTrue (is_plain_answer told) → IsTrue (is_short told) → text ≡ text_of told close) → IsRequestAnswered tells old was reading close result new is
    turn_of plain short either fits = by_query (is_of_query told) refl
      where
        says : (keys : List KeyRow) (request : HttpRequest) → IsReading keys request reading close → Answers tells keys old request moment told new
        says keys request read = answers_of keys request reading close old moment told new read answer

        by_text : is_of_query told ≡ true → (text ≡ text_of told close) ⊎ (text ≡ text_of answered.Memory close)
            → IsRequestAnswered tells old was reading close result new is
        by_text query (inl same) = with_text told same says
        by_text query (inr same) = with_text answered.Memory same (λ keys request read. missed keys request old moment told new (says keys request read) query)

        by_query : (query : Bool) → is_of_query told ≡ query → IsRequestAnswered tells old was reading close result new is
        by_query true query = by_text query either
        by_query false query = with_text told (fits plain (short query)) says
