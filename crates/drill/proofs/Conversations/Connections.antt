-- A session over a link that gives a text twice is an exchange.
use Rattle.std.proofs.Common.{◌≡◌, ◌≤◌, ◌⊎◌, inl, inr, ℕ, Bool, true, false, List, [], ◌∷◌, ◌++◌, Option, Some, length, MatchBool, refl, sym, ap, subst, arith, length-append, ◌∙◌}
use Rattle.std.proofs.lemmas.List.{append-nil}
use Rattle.std.specs.Io.KnownBytes.{IsAtEnd}
use Rattle.disk_model.specs.Disks.{DiskState}
use Rattle.book.specs.Books.{BookView}
use Rattle.http_wire.specs.declared.messages.HttpRequest.{HttpRequest}
use Rattle.http_wire.specs.Messages.{Closed, Clean, Cut, End as Ending, IsEnd, Messages, Refused, Stays}
use Rattle.rulebook.specs.Histories.Stories.{StartsWith}
use Rattle.campaign_server.specs.declared.ends.End.{End}
use Rattle.campaign_server.specs.declared.ends.End.TheVariants as end
use Rattle.campaign_server.specs.Conversations.Chains.{answer_texts, last_text, requests_of}
use Rattle.campaign_server.specs.Connections.{ConnectionEnds, Hears, SpokeAll}
use Rattle.campaign_server.specs.MemoryForms.MemoryLinks.{MemoryLinkState, told_by}
use Rattle.campaign_server.specs.Sessions.{IsSession}
use Rattle.drill.specs.Answers.{are_met}
use Rattle.drill.specs.Exchanges.{EndsWhole, IsExchange, IsWhole, OneReading}
use Rattle.drill.specs.FreshLinks.{IsFresh}
use Rattle.drill.specs.Messages.{callers}
use Rattle.drill.proofs.Conversations.Talks.{mets, moments-zero, talk-told}

-- requests and an end that stays where more bytes come are those of longer bytes too
longer : ((bytes more : List ℕ) → Stays bytes more) → (ending : Ending) → ((bytes more : List ℕ) → IsEnd bytes ending → IsEnd (bytes ++ more) ending)
    → (bytes more : List ℕ) (requests : List HttpRequest) → Messages bytes requests ending → Messages (bytes ++ more) requests ending
longer stays ending end_stays bytes more [] is = end_stays bytes more is
longer stays ending end_stays bytes more (request ∷ requests) (rest, front, next) =
    (rest ++ more, (stays bytes more).whole request rest front, step request.close next (longer stays ending end_stays rest more requests))
  where
    step : (close : Bool) → MatchBool close ((requests ≡ []) × (ending ≡ Closed)) (Messages rest requests ending)
        → (Messages rest requests ending → Messages (rest ++ more) requests ending)
        → MatchBool close ((requests ≡ []) × (ending ≡ Closed)) (Messages (rest ++ more) requests ending)
    step true last later = last
    step false others later = later others

module _ {D : Type 0} (seen : D → DiskState) (old new : BookView D) (text : List ℕ)
    (fresh after : MemoryLinkState) (is_fresh : IsFresh (text ++ text) fresh) where
  given : (bytes : List ℕ) → Hears (told_by fresh) (told_by after) bytes → text ++ text ≡ bytes ++ after.left
  given bytes heard = sym is_fresh.left_is ∙ heard.left

  spoken : StartsWith new.history old.history → are_met after.written ≡ true → (bytes : List ℕ) (ending : Ending) → IsWhole ending → last_text ending ≡ []
      → (spoke : SpokeAll (IsSession seen callers old (told_by fresh).clock new (told_by after).clock) (told_by fresh) bytes (told_by after) ending)
      → Messages (text ++ text) (requests_of spoke.said) ending → IsExchange old.history text new.history after.written
  spoken grown met bytes ending whole no_more spoke messages =
      let alone = spoke.talk.talk in
      let written : after.written ≡ answer_texts spoke.said =
      spoke.written ∙ ap (λ front. front ++ (answer_texts spoke.said ++ last_text ending)) is_fresh.written_is
      ∙ ap (λ last. answer_texts spoke.said ++ last) no_more ∙ append-nil (answer_texts spoke.said) in
      let all_met = mets [] spoke.said [] (ap are_met (append-nil (answer_texts spoke.said) ∙ sym written) ∙ met) in
      let moments : Option (List ℕ) = Some fresh.moments in
      let zero = moments-zero (told_by fresh).clock (told_by after).clock spoke.said
      (ap (λ (ms : List ℕ). let o : Option (List ℕ) = Some ms in o) is_fresh.moments_are) alone.1.moments in
      record {
        said = spoke.said;
        ending = ending;
        are_messages = messages;
        whole = whole;
        told = talk-told (length old.history) (seen old.disk).faults
            (seen new.disk).faults alone.0 spoke.said old.history new.history refl grown zero all_met alone.1.talk;
        answers_are = written;
      }

  -- Where the text sent twice is requests and nothing else, the session ends behind them, if not by a fault or for want of memory.
  pub whole-end : ((bytes more : List ℕ) → Stays bytes more) → OneReading → (requests : List HttpRequest)
      → Messages (text ++ text) requests Clean → length text ≤ 16785408
      → (e : End) → ConnectionEnds (IsSession seen callers old (told_by fresh).clock new (told_by after).clock) (told_by fresh) (told_by after) e → EndsWhole e
  whole-end stays one requests reads few end.Ended ends = tt
  whole-end stays one requests reads few end.ReadFault ends = tt
  whole-end stays one requests reads few end.WriteFault ends = tt
  whole-end stays one requests reads few end.Memory ends = tt
  whole-end stays one requests reads few end.Cut ends =
      let spoke = ends.ends.2 in
      let all : ends.bytes ≡ text ++ text =
      sym (append-nil ends.bytes) ∙ ap (λ left. ends.bytes ++ left) (sym ends.ends.1) ∙ sym (given ends.bytes ends.heard) in
      let other = subst (λ (bytes : List ℕ). Messages bytes (requests_of spoke.said) Cut) all spoke.are_messages in
      let wrong : Clean ≡ Cut = (one (text ++ text) requests (requests_of spoke.said) Clean Cut reads other).1 in cc
  whole-end stays one requests reads few (end.Refused cause) ends =
      let spoke = ends.ends.1 in
      let all = longer stays (Refused cause) (λ bytes more. (stays bytes more).faulty cause) ends.bytes after.left
      (requests_of spoke.said) spoke.are_messages in
      let other = subst (λ (bytes : List ℕ). Messages bytes (requests_of spoke.said) (Refused cause)) (sym (given ends.bytes ends.heard)) all in
      let wrong : Clean ≡ Refused cause = (one (text ++ text) requests (requests_of spoke.said) Clean (Refused cause) reads other).1 in cc
  whole-end stays one requests reads few end.Worn ends =
      absurd (omega (arith, few, ends.ends.0, ap length (given ends.bytes ends.heard), length-append text text, length-append ends.bytes after.left))

  pub exchanged : StartsWith new.history old.history → are_met after.written ≡ true → ((bytes more : List ℕ) → Stays bytes more)
      → ConnectionEnds (IsSession seen callers old (told_by fresh).clock new (told_by after).clock) (told_by fresh) (told_by after) end.Ended
      → IsExchange old.history text new.history after.written
  exchanged grown met stays ends = by ends.ends.1
    where
      bytes : List ℕ
      bytes = ends.bytes

      by : (IsAtEnd (told_by after).reading.left
          × SpokeAll (IsSession seen callers old (told_by fresh).clock new (told_by after).clock) (told_by fresh) bytes (told_by after) Clean)
          ⊎ SpokeAll (IsSession seen callers old (told_by fresh).clock new (told_by after).clock) (told_by fresh) bytes (told_by after) Closed
          → IsExchange old.history text new.history after.written
      by (inl (at_end, spoke)) =
          let all : bytes ≡ text ++ text = sym (append-nil bytes) ∙ ap (λ left. bytes ++ left) (sym at_end) ∙ sym (given bytes ends.heard) in
          spoken grown met bytes Clean tt refl spoke (subst (λ (bs : List ℕ). Messages bs (requests_of spoke.said) Clean) all spoke.are_messages)
      by (inr spoke) =
          spoken grown met bytes Closed tt refl spoke (subst (λ (bs : List ℕ). Messages bs (requests_of spoke.said) Closed) (sym (given bytes ends.heard))
          (longer stays Closed (λ front more none. absurd none) bytes after.left (requests_of spoke.said) spoke.are_messages))
