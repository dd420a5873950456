-- A text that was sent as the message that it is.
use Rattle.std.proofs.Common.{◌≡◌, ℕ, List, Option, subst}
use Rattle.rulebook.specs.Campaign.{History}
use Rattle.drill.specs.Exchanges.{IsAnswered, IsExchange, IsSent}
use Rattle.drill.specs.Messages.{Message, message_text}

pub answered-as : (H S : History) (text : List ℕ) (message : Message) (doc : Option ℕ) → text ≡ message_text message
    → IsAnswered H text S doc → IsAnswered H (message_text message) S doc
answered-as H S text message doc is (answers, exchange, told) = (answers, subst (λ (t : List ℕ). IsExchange H t S answers) is exchange, told)

pub sent-as : (H S : History) (text : List ℕ) (message : Message) (doc : Option ℕ) → text ≡ message_text message → IsAnswered H text S doc → IsSent H message S
sent-as H S text message doc is (answers, exchange, told) = (answers, subst (λ (t : List ℕ). IsExchange H t S answers) is exchange)
