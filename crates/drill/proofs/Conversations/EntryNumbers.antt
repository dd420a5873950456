-- What exchanges do to the numbers of the assessor's entries: they go up, and each accepted lease is an entry more.
use Rattle.std.proofs.Common.{◌≡◌, ◌<◌, ◌≤◌, ◌==◌, ◌&&◌, ◌⊎◌, inl, inr, ℕ, Bool, false, List, [], ◌∷◌, ◌++◌, None, Ok, Option, Some, codes, length, refl, sym, ap, subst, arith, length-append, ◌∙◌}
use Rattle.std.specs.List.{list_any}
use Rattle.std.specs.Option.{option_map_or}
use Rattle.std.specs.Str.{bytes_eq}
use Rattle.std.proofs.lemmas.Bool.{or_from}
use Rattle.std.proofs.lemmas.List.Folds.{list_any-append}
use Rattle.http_wire.specs.declared.messages.HttpRequest.{HttpRequest}
use Rattle.http_wire.specs.Messages.{Clean, Stays}
use Rattle.routes.specs.Answers.{status_of}
use Rattle.routes.specs.Asks.{Reads}
use Rattle.routes.specs.Keys.{caller_with}
use Rattle.routes.specs.declared.answers.Answered.{Answered}
use Rattle.routes.specs.declared.answers.Answered.TheVariants as answered
use Rattle.routes.specs.declared.keys.KeyRow.{KeyRow}
use Rattle.rulebook.specs.Campaign.{History}
use Rattle.rulebook.specs.Requests.Numbers.{entry_of_number, is_numbered}
use Rattle.rulebook.specs.Histories.Stories.{added_by}
use Rattle.rulebook.specs.declared.entry.Entry.{Entry}
use Rattle.rulebook.specs.declared.rules.Caller.{Caller}
use Rattle.campaign_server.specs.Conversations.Chains.{Said, answer_texts, at_moment, requests_of}
use Rattle.campaign_server.specs.Conversations.Talks.{SaysByRules}
use Rattle.drill.specs.Answers.{leased_doc}
use Rattle.drill.specs.Exchanges.{AreTold, IsExchange, OneReading}
use Rattle.drill.specs.Messages.{IsSendable, Message, callers, message_text}
use Rattle.drill.proofs.Conversations.LeaseAnswers.{IsOther, disk-other, memory-other, reply-other, route-other, untold}
use Rattle.drill.proofs.OwnMessages.OwnAsks.{asked-own}
use Rattle.drill.proofs.Conversations.OwnEntries.{IsOneOf, one-added}
use Rattle.drill.proofs.OwnMessages.OwnRequests.{sent-twice, sent_request}
use Rattle.drill.proofs.Conversations.Talks.{status-first}

-- entries are never fewer
pub told-longer : (said : List Said) (H S : History) → AreTold H said S → length H ≤ length S
told-longer [] H S is = omega (arith, ap length is)
told-longer (x ∷ said) H S (more, says, met, told) = omega (arith, told-longer said (H ++ more) S told, length-append H more)

-- each request is this one, and there is one
abbrev AreAll : HttpRequest → List HttpRequest → Type 0
AreAll request [] = Unit {0}
AreAll request (other ∷ others) = (other ≡ request) × AreAll request others

abbrev IsFirst : HttpRequest → List HttpRequest → Type 0
IsFirst request [] = ⊥
IsFirst request (other ∷ others) = other ≡ request

-- whether an entry of this name has this number
abbrev has_number : List ℕ → ℕ → History → Bool
has_number name number H = list_any (is_numbered name number) H

module _ (message : Message) (is : IsSendable message) (row : KeyRow) (row_is : caller_with callers message.key ≡ Some row) where
  -- no entry, or one of the message's caller and number
  abbrev IsOwn : History → Type 0
  IsOwn more = (more ≡ []) ⊎ ((e : Entry) × (more ≡ e ∷ []) × (e.core.caller.name ≡ row.name) × (e.core.number ≡ Some message.number))

  says-own : (H : History) (request : HttpRequest) (answer : Answered) (more : History) → request ≡ sent_request message
      → SaysByRules callers H request 0 answer more → IsOwn more
  says-own H request (answered.Reply reply query) more same (asked, reads, query_is, told, added) =
      by (one-added H asked.0 asked.1 asked.2 0) (asked-own message is row row_is asked (subst (λ (r : HttpRequest). Reads r callers (Ok asked)) same reads))
    where
      by : IsOneOf asked.0 asked.1 (added_by H (at_moment asked 0)) → (asked.0.name ≡ row.name) × (asked.1 ≡ Some message.number) → IsOwn more
      by (inl none) own = inl (added ∙ none)
      by (inr (e, one, caller, number)) own = inr (e, added ∙ one, ap (λ (who : Caller). who.name) caller ∙ own.0, number ∙ own.1)
  says-own H request (answered.Route cause) more same (reads, none) = inl none
  says-own H request (answered.Wire cause) more same wrong = absurd wrong
  says-own H request answered.DiskFault more same (asked, reads, some, none) = inl none
  says-own H request answered.Memory more same none = inl none

  own-unnumbered : (k : ℕ) (more : History) → IsOwn more → (bytes_eq row.name (codes "asr") && (message.number == k)) ≡ false
      → has_number (codes "asr") k more ≡ false
  own-unnumbered k more (inl none) apart = ap (has_number (codes "asr") k) none
  own-unnumbered k more (inr (e, one, name, number)) apart =
      ap (has_number (codes "asr") k) one
      ∙ or_from (is_numbered (codes "asr") k e) false
      (ap (λ (n : List ℕ). bytes_eq n (codes "asr") && option_map_or (λ given. given == k) e.core.number false) name
      ∙ ap (λ (n : Option ℕ). bytes_eq row.name (codes "asr") && option_map_or (λ given. given == k) n false) number ∙ apart) refl

  told-unnumbered : (said : List Said) (H S : History) (k : ℕ) → AreAll (sent_request message) (requests_of said) → AreTold H said S
      → (bytes_eq row.name (codes "asr") && (message.number == k)) ≡ false → has_number (codes "asr") k H ≡ false → has_number (codes "asr") k S ≡ false
  told-unnumbered [] H S k all told apart none = ap (has_number (codes "asr") k) told ∙ none
  told-unnumbered (x ∷ said) H S k (same, all) (more, says, met, told) apart none =
      let added = own-unnumbered k more (says-own H x.request x.answer more same says) apart in
      told-unnumbered said (H ++ more) S k all told apart
      (list_any-append (is_numbered (codes "asr") k) H more ∙ or_from (has_number (codes "asr") k H) (has_number (codes "asr") k more) none added)

  other-status : (H : History) (request : HttpRequest) (answer : Answered) (more : History) → request ≡ sent_request message
      → entry_of_number H row.name (Some message.number) ≡ None
      → SaysByRules callers H request 0 answer more → more ≡ [] → IsOther (status_of answer)
  other-status H request (answered.Reply reply query) more same fresh (asked, reads, query_is, told, added) none =
      let own = asked-own message is row row_is asked (subst (λ (r : HttpRequest). Reads r callers (Ok asked)) same reads) in
      let unused_here = ap (λ (name : List ℕ). entry_of_number H name asked.1) own.0 ∙ ap (entry_of_number H row.name) own.1 ∙ fresh in
      reply-other H asked.0 asked.1 asked.2 reply query unused_here query_is told (sym added ∙ none)
  other-status H request (answered.Route cause) more same fresh says none = route-other cause
  other-status H request (answered.Wire cause) more same fresh wrong none = absurd wrong
  other-status H request answered.DiskFault more same fresh says none = disk-other
  other-status H request answered.Memory more same fresh says none = memory-other

  told-grows : (said : List Said) (H S : History) (answers : List ℕ) (doc : ℕ) → IsFirst (sent_request message) (requests_of said) → AreTold H said S
      → answers ≡ answer_texts said
      → leased_doc answers ≡ Some doc → entry_of_number H row.name (Some message.number) ≡ None → length H < length S
  told-grows [] H S answers doc first told text leased fresh = absurd first
  told-grows (x ∷ said) H S answers doc same (more, says, met, told) text leased fresh = by more refl
    where
      by : (added : History) → more ≡ added → length H < length S
      by [] none =
          let begins = status-first x (status_of x.answer) refl in
          let whole = text ∙ ap (λ (t : List ℕ). t ++ answer_texts said) begins.1 in
          absurd (untold answers begins.0 (answer_texts said) (status_of x.answer) doc whole
          (other-status H x.request x.answer more same fresh says none) leased)
      by (e ∷ others) added = omega (arith, told-longer said (H ++ more) S told, length-append H more, ap length added)

  module _ (stays : (bytes more : List ℕ) → Stays bytes more) (one : OneReading) (H S : History) (answers : List ℕ)
      (exchange : IsExchange H (message_text message) S answers) where
    reads : (sent_request message ∷ sent_request message ∷ []) ≡ requests_of exchange.said
    reads =
        let text = message_text message in
        (one (text ++ text) (sent_request message ∷ sent_request message ∷ []) (requests_of exchange.said) Clean exchange.ending
        (sent-twice message is (stays text text)) exchange.are_messages).0

    pub exchange-unnumbered : (k : ℕ) → (bytes_eq row.name (codes "asr") && (message.number == k)) ≡ false → has_number (codes "asr") k H ≡ false
        → has_number (codes "asr") k S ≡ false
    exchange-unnumbered k = told-unnumbered exchange.said H S k (subst (AreAll (sent_request message)) reads (refl, (refl, tt))) exchange.told

    pub exchange-grows : (doc : ℕ) → leased_doc answers ≡ Some doc → entry_of_number H row.name (Some message.number) ≡ None → length H < length S
    exchange-grows doc = told-grows exchange.said H S answers doc (subst (IsFirst (sent_request message)) reads refl) exchange.told exchange.answers_are
