-- What a message that is sent twice is answered by the rules, and what it adds to the accepted entries.
use Rattle.std.specs.Prelude.{◌≡◌, ◌≢◌, ℕ, List, Option, [], ◌∷◌, ◌++◌}
use Rattle.http_wire.specs.declared.messages.HttpRequest.{HttpRequest}
use Rattle.http_wire.specs.Messages.{Messages, End, Closed, Refused, Clean, Cut}
use Rattle.routes.specs.Answers.{status_of}
use Rattle.routes.specs.declared.answers.Answered.{Answered}
use Rattle.rulebook.specs.Campaign.{History}
use Rattle.campaign_server.specs.declared.ends.End.{End as ConnectionEnd}
use Rattle.campaign_server.specs.declared.ends.End.TheVariants as end
use Rattle.campaign_server.specs.Conversations.Chains.{Said, answer_texts, requests_of}
use Rattle.campaign_server.specs.Conversations.Talks.{SaysByRules}
use Rattle.drill.specs.Answers.{leased_doc}
use Rattle.drill.specs.Messages.{Message, callers, message_text}

-- an answer that tells neither want of memory nor a fault of the disk
pub record IsMet (answer : Answered) : Type 0 where
  pub no_disk_fault : status_of answer ≢ 503
  pub no_want : status_of answer ≢ 507

-- The answers of the rules at moment 0, each behind the entries that stand then; at the end S stands.
abbrev pub AreTold : History → List Said → History → Type 0
AreTold H [] S = S ≡ H
AreTold H (x ∷ said) S = (more : History) × SaysByRules callers H x.request 0 x.answer more × IsMet x.answer × AreTold (H ++ more) said S

-- the bytes are whole messages to their end
abbrev pub IsWhole : End → Type 0
IsWhole Clean = Unit {0}
IsWhole Closed = Unit {0}
IsWhole (Refused fault) = ⊥
IsWhole Cut = ⊥

-- a session over whole messages ends behind them, by a fault of its link, or for want of memory
abbrev pub EndsWhole : ConnectionEnd → Type 0
EndsWhole end.Ended = Unit {0}
EndsWhole end.ReadFault = Unit {0}
EndsWhole end.WriteFault = Unit {0}
EndsWhole end.Memory = Unit {0}
EndsWhole end.Cut = ⊥
EndsWhole (end.Refused cause) = ⊥
EndsWhole end.Worn = ⊥

-- bytes are requests and an end in one way at most
abbrev pub OneReading : Type 0
OneReading =
    (bytes : List ℕ) (requests others : List HttpRequest) (end other : End) → Messages bytes requests end → Messages bytes others other
    → (requests ≡ others) × (end ≡ other)

-- a text that comes twice in one connection, its answers by the rules behind H, and the entries that stand then
pub record IsExchange (H : History) (text : List ℕ) (S : History) (answers : List ℕ) : Type 0 where
  pub said : List Said
  pub ending : End
  pub are_messages : Messages (text ++ text) (requests_of said) ending
  pub whole : IsWhole ending
  pub told : AreTold H said S
  pub answers_are : answers ≡ answer_texts said

-- an exchange, and the document that its answers tell
abbrev pub IsAnswered : History → List ℕ → History → Option ℕ → Type 0
IsAnswered H text S doc = (answers : List ℕ) × IsExchange H text S answers × (doc ≡ leased_doc answers)

-- the message was sent twice, whatever its answers are
abbrev pub IsSent : History → Message → History → Type 0
IsSent H message S = (answers : List ℕ) × IsExchange H (message_text message) S answers
