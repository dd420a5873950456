-- What is said on a connection: its requests, their moments and answers, and the states that they lead through.
use Rattle.std.specs.Prelude.{◌≡◌, ◌⊎◌, ℕ, true, List, [], map, ◌∷◌, Ok, Err, IsTrue}
use Rattle.std.specs.List.{flat_map}
use Rattle.http_wire.specs.declared.messages.HttpRequest.{HttpRequest}
use Rattle.http_wire.specs.Messages.{End, Closed, Refused, Clean, Cut}
use Rattle.routes.specs.declared.answers.Answered.{Answered}
use Rattle.routes.specs.declared.answers.Answered.TheVariants as answered
use Rattle.routes.specs.declared.keys.KeyRow.{KeyRow}
use Rattle.routes.specs.Answers.{text_of}
use Rattle.routes.specs.Asks.{Asked, Reads}
use Rattle.rulebook.specs.declared.reply.Reply.{Reply}
use Rattle.rulebook.specs.declared.ask.Addressed.{Addressed}
use Rattle.rulebook.specs.declared.answer.Answer.{Answer}
use Rattle.rulebook.specs.declared.answer.Answer.TheVariants as answers
use Rattle.campaign_server.specs.Links.{Clock, Ticks}
use Rattle.campaign_server.specs.Conversations.Stories.{is_query}

-- a request, the moment at which it was asked, and what was answered
pub record Said : Type 0 where
  pub request : HttpRequest
  pub moment : ℕ
  pub answer : Answered

abbrev pub requests_of : List Said → List HttpRequest
requests_of said = map (λ x. x.request) said

-- the text of the answer; it says close where the request does
abbrev pub text_said : Said → List ℕ
text_said x = text_of x.answer x.request.close

-- the texts of the answers, one after another
abbrev pub answer_texts : List Said → List ℕ
answer_texts said = flat_map text_said said

-- the text behind the last answer: a refused message is answered with close
abbrev pub last_text : End → List ℕ
last_text (Refused cause) = text_of (answered.Wire cause) true
last_text Closed = []
last_text Clean = []
last_text Cut = []

-- what is asked, at a moment
abbrev pub at_moment : Asked → ℕ → Addressed
at_moment asked moment = record { who = asked.0; number = asked.1; ask = asked.2; moment = moment }

module _ {S : Type 0} (tells : S → Addressed → Answer → S → Type 0) (keys : List KeyRow) where
  -- there was no memory to tell the request, or none for the text of the reply to a query
  abbrev pub Misses : S → Addressed → S → Type 0
  Misses old asked new = tells old asked answers.Memory new ⊎ ((reply : Reply) × IsTrue (is_query asked.ask) × tells old asked (answers.Reply reply) new)

  -- From one state a request at a moment is answered and leads to the other: the teller's answer to what it asks, its fault, or want of memory.
  abbrev pub Answers : S → HttpRequest → ℕ → Answered → S → Type 0
  Answers old request moment (answered.Reply reply query) new =
      (asked : Asked) × Reads request keys (Ok asked) × (query ≡ is_query asked.2) × tells old (at_moment asked moment) (answers.Reply reply) new
  Answers old request moment (answered.Route cause) new = Reads request keys (Err cause) × (new ≡ old)
  Answers old request moment (answered.Wire cause) new = ⊥
  Answers old request moment answered.DiskFault new =
      (asked : Asked) × Reads request keys (Ok asked) × tells old (at_moment asked moment) answers.DiskFault new
  Answers old request moment answered.Memory new =
      (new ≡ old) ⊎ ((asked : Asked) × Reads request keys (Ok asked) × Misses old (at_moment asked moment) new)

  -- Each request is answered from the state that the one before it led to, at the clock's next moment.
  abbrev pub Chain : S → Clock → S → Clock → List Said → Type 0
  Chain old clock new later [] = (new ≡ old) × (later ≡ clock)
  Chain old clock new later (x ∷ said) =
      (mid : S) × (next : Clock) × Ticks clock next x.moment × Answers old x.request x.moment x.answer mid × Chain mid next new later said
